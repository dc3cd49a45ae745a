use Rattle.std.proofs.Common.{◌≡◌, ◌⊎◌, inl, inr, [], ◌∷◌, sym, subst}
use Rattle.std.proofs.lemmas.Result.{IfErr-weaker, IfOk-weaker}
use Rattle.rb_core.specs.declared.types.Ty.{Ty}
use Rattle.rb_core.specs.declared.types.Ty.TheVariants.{Int}
use Rattle.rb_image_text.specs.declared.fault.ImageFault.TheVariants.{Memory}
use Rattle.rb_image.specs.Roots.{WordsFit}
use Rattle.rb_image.specs.Values.{IsDeclared}
use Rattle.rb_peek.specs.declared.peek.Peeked.{Peeked}
use Rattle.rb_peek.specs.Peeking.{IsFaultOf, IsPart, IsPartFault, IsPartOf}
use Rattle.rb_peek.proofs.peek.peek.Goals as goal

pub returns-in-None-clause-part : goal.returns-in-None-clause-part
returns-in-None-clause-part g c =
    let types = c.args.agreed.now.covered.program.types in
    let layouts = c.args.agreed.now.layouts in
    let image = c.args.image.now in
    let path = c.args.path.now in
    let bits = c.in-Int.bits in
    let fit : WordsFit (bits ∷ []) image.root = subst (WordsFit (bits ∷ [])) c.as_slice-words.ensures (subst (λ b. WordsFit (b ∷ []) c.as_slice-words.result.now) c.from.ensures c.in-None.ensures) in
    IfOk-weaker c.peek_integer.result (IsPartOf types layouts image (Int bits) path) (IsPart types layouts image c.args.ty path)
    (λ x h. subst (λ (ty : Ty). IsPart types layouts image ty path x) (sym c.in-Int.is) (fit, h)) (c.peek_integer.ensures.part types layouts)

pub returns-in-None-clause-declared : goal.returns-in-None-clause-declared
returns-in-None-clause-declared g c =
    let types = c.args.agreed.now.covered.program.types in
    let layouts = c.args.agreed.now.layouts in
    let image = c.args.image.now in
    IfOk-weaker c.peek_integer.result (IsPartOf types layouts image (Int c.in-Int.bits) c.args.path.now) (λ (part : Peeked). IsDeclared types part.ty)
    (λ x h. subst (IsDeclared types) (sym h.1) tt) (c.peek_integer.ensures.part types layouts)

pub returns-in-None-clause-fault : goal.returns-in-None-clause-fault
returns-in-None-clause-fault g c =
    let types = c.args.agreed.now.covered.program.types in
    let layouts = c.args.agreed.now.layouts in
    let image = c.args.image.now in
    let path = c.args.path.now in
    let bits = c.in-Int.bits in
    let fit : WordsFit (bits ∷ []) image.root = subst (WordsFit (bits ∷ [])) c.as_slice-words.ensures (subst (λ b. WordsFit (b ∷ []) c.as_slice-words.result.now) c.from.ensures c.in-None.ensures) in
    IfErr-weaker c.peek_integer.result (λ fault. IsFaultOf types layouts image (Int bits) path fault ⊎ (fault ≡ Memory)) (λ fault. IsPartFault types layouts image c.args.ty path fault ⊎ (fault ≡ Memory))
    (λ fault h. elim h [
      | inl is ↦ inl (subst (λ (ty : Ty). IsPartFault types layouts image ty path fault) (sym c.in-Int.is) (inr (fit, is)))
      | inr memory ↦ inr memory
    ]) (c.peek_integer.ensures.fault types layouts)
