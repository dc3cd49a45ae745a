use Rattle.std.proofs.Common.{◌+◌, ◌++◌, ◌∷◌, [], List, map, drop, drop-cons, add-one, append_assoc, ap, sym, ◌∙◌}
use Rattle.rb_core.specs.declared.types.Ty.{Ty}
use Rattle.rb_core.specs.declared.types.Ty.TheVariants.{Int}
use Rattle.rb_core.specs.declared.pattern.Pat.{Pat}
use Rattle.rb_core.specs.declared.pattern.Pat.TheVariants as P
use Rattle.rb_auto.proofs.derived.provenance.Goals as goal

pub loop-field-preserved : goal.loop-field-preserved
loop-field-preserved c =
    let i = c.loop-field._field-index in
    let tys = c.as_slice-field-items.result.now in
    let f : Ty → Pat = λ ty. P.Wild 0 in
    let rest = map f (drop (i + 1) tys) in
    ap (λ (ps : List Pat). ps ++ rest) c.in_ok-push.ensures.ok
    ∙ append_assoc c.loop-field.pats (P.Wild 0 ∷ []) rest
    ∙ ap (λ n. c.loop-field.pats ++ (P.Wild 0 ∷ map f (drop n tys))) (add-one i)
    ∙ ap (λ (xs : List Ty). c.loop-field.pats ++ map f xs) (sym (drop-cons tys i (Int 0) c.loop-field-test.true))
    ∙ c.loop-field.invariant
