-- The filter that an entry makes: new of its setter's type, then the setter.
use Rattle.std.specs.Prelude.{Float, unwrap_or}
use Rattle.filter_core.specs.Arithmetic.{word}
use Rattle.filter_core.specs.Refusal.{frequency_refusal, unless_refused}
use Rattle.dc_blocker.specs.DcBlocker.{dc_new, dc_init}
use Rattle.one_pole.specs.OnePole.{one_pole_new, one_pole_set_f}
use Rattle.svf.specs.Svf.{svf_new, svf_set_g_r_h, svf_set_f_q}
use Rattle.naive_svf.specs.NaiveSvf.{naive_new, naive_set_f_q}
use Rattle.modified_svf.specs.ModifiedSvf.{modified_new, modified_set_f_fq}
use Rattle.crossover_svf.specs.CrossoverSvf.{crossover_new, crossover_set_f_fq}
use Rattle.any_filter.specs.Cases.{passes_of}
use Rattle.any_filter.specs.declared.Filter.{Filter}
use Rattle.any_filter.specs.declared.Filter.TheVariants as type
use Rattle.sheets.specs.Kind.{setter_in}
use Rattle.sheets.specs.declared.edition.Edition.{Edition}
use Rattle.sheets.specs.declared.edition.Edition.TheVariants.{Two}
use Rattle.sheets.specs.declared.entry.Entry.{Entry}
use Rattle.sheets.specs.declared.setter.Setter.{Setter}
use Rattle.sheets.specs.declared.setter.Setter.TheVariants.{DcBlocker, OnePole, SvfFrequency, SvfCoefficients, NaiveSvf, ModifiedSvf, CrossoverSvf}

-- A setter that can be refused leaves the new filter: no entry of a sheet is refused (Set.antt).
unfoldable pub filter_for : Setter → Float → Float → Float → Filter
filter_for DcBlocker a b c = type.DcBlocker (dc_init dc_new a)
filter_for (OnePole p) a b c = type.OnePole (unless_refused (frequency_refusal a p) one_pole_new (one_pole_set_f one_pole_new a p))
filter_for (SvfFrequency p) a b c = type.Svf (unless_refused (frequency_refusal a p) svf_new (svf_set_f_q svf_new a b p))
filter_for SvfCoefficients a b c = type.Svf (svf_set_g_r_h svf_new a b c)
filter_for (NaiveSvf p) a b c = type.NaiveSvf (unless_refused (frequency_refusal a p) naive_new (naive_set_f_q naive_new a b p))
filter_for ModifiedSvf a b c = type.ModifiedSvf (modified_set_f_fq modified_new a b)
filter_for CrossoverSvf a b c = type.CrossoverSvf (passes_of (crossover_set_f_fq crossover_new a b))

-- the filter of an entry, its kind byte read as the edition v has it; one that names no setter, which no sheet has, as a DC blocker's
abbrev pub filter_in : Edition → Entry → Filter
filter_in v e = filter_for (unwrap_or (setter_in v e.kind) DcBlocker) (word e.a) (word e.b) (word e.c)

-- a load asks for no edition: an entry that its edition takes makes here the filter that it has there (Editions.antt)
abbrev pub filter_of : Entry → Filter
filter_of e = filter_in Two e
