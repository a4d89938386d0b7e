use Rattle.std.proofs.Common.{◌≡◌, ◌∙◌, ap, eqb, drop, arith}
use Rattle.std.specs.List.{position_from}
use Rattle.std.proofs.lemmas.List.{take_rest}
use Rattle.scan.proofs.First.{first_at, first_nowhere}
use Rattle.scan.proofs.find.Goals as goal

pub returns-in-None-clause-value : goal.returns-in-None-clause-value
returns-in-None-clause-value c =
    let w : c.in_ok-rest.rest.now ≡ drop c.args.from c.args.s.now = c.in_ok-rest.ensures.lookup.0.2 ∙ take_rest c.args.s.now c.args.from in
    first_nowhere (λ x. eqb x c.args.byte) c.args.from c.in_ok-rest.rest.now (λ j l. c.in-None.ensures j (omega arith) l)
    ∙ ap (position_from (λ x. eqb x c.args.byte) c.args.from) w

pub returns-in-Some-clause-value : goal.returns-in-Some-clause-value
returns-in-Some-clause-value c =
    let w : c.in_ok-rest.rest.now ≡ drop c.args.from c.args.s.now = c.in_ok-rest.ensures.lookup.0.2 ∙ take_rest c.args.s.now c.args.from in
    let e = c.in-Some.ensures in
    first_at (λ x. eqb x c.args.byte) c.args.from c.in_ok-rest.rest.now c.in-Some.k e.0.high (λ j l. e.0.before j (omega arith) l) e.1
    ∙ ap (position_from (λ x. eqb x c.args.byte) c.args.from) w
