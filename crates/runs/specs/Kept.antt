-- What no run changes: a filter's coefficients, whatever the form and the samples.
use Rattle.std.specs.Prelude.{◌≡◌, List, Float}
use Rattle.any_filter.specs.Rest.{coefficients_of}
use Rattle.any_filter.specs.declared.Filter.{Filter}
use Rattle.runs.specs.Run.{through}
use Rattle.runs.specs.declared.form.RunForm.{RunForm}

abbrev pub RunsKeepCoefficients : Type 0
RunsKeepCoefficients = (f : Filter) (form : RunForm) (us : List Float) → coefficients_of (through f form us) ≡ coefficients_of f
