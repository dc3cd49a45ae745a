use Rattle.std.proofs.Common.{[], ◌∷◌, subst}
use Rattle.rb_matrix.specs.inner.OneColumn.{IsOneAnswer}
use Rattle.rb_matrix.proofs.Exhausts.{none-common, is-common}
use Rattle.rb_matrix.proofs.coverage.common.Goals as goal

pub returns-in-None : goal.returns-in-None
returns-in-None c =
    let both = (c.args.one.now ∷ []) ∷ (c.args.other.now ∷ []) ∷ [] in
    none-common c.args.types.now c.args.ty c.args.one.now c.args.other.now
    (subst (IsOneAnswer c.args.types.now c.args.ty both []) c.in-None.is
    (subst (λ l. IsOneAnswer c.args.types.now c.args.ty both l c.in_ok-find_one.field-0) c.new.ensures
    (subst (λ l. IsOneAnswer c.args.types.now c.args.ty l c.new.result c.in_ok-find_one.field-0) c.in_ok-wanted.ensures c.in_ok-find_one.ensures)))

pub returns-in-Some : goal.returns-in-Some
returns-in-Some c =
    let both = (c.args.one.now ∷ []) ∷ (c.args.other.now ∷ []) ∷ [] in
    is-common c.args.types.now c.args.ty c.args.one.now c.args.other.now c.in-Some.pat
    (subst (IsOneAnswer c.args.types.now c.args.ty both []) c.in-Some.is
    (subst (λ l. IsOneAnswer c.args.types.now c.args.ty both l c.in_ok-find_one.field-0) c.new.ensures
    (subst (λ l. IsOneAnswer c.args.types.now c.args.ty l c.new.result c.in_ok-find_one.field-0) c.in_ok-wanted.ensures c.in_ok-find_one.ensures)))
