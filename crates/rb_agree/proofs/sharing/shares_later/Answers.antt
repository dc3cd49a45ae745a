use Rattle.std.proofs.Common.{◌≡◌, Bool, false, Some, refl, sym, ◌∙◌}
use Rattle.std.specs.Prelude.{slice_get, MatchBool}
use Rattle.std.proofs.lemmas.Option.{none-some, slice_get_past, slice_get_read}
use Rattle.std.proofs.lemmas.Result.{IfOk-weaker}
use Rattle.rb_layout.specs.A5.{HaveCommon}
use Rattle.rb_agree.specs.inner.Sharing.{SharesNot}
use Rattle.rb_agree.proofs.Grouping.{shares-not}
use Rattle.rb_agree.proofs.sharing.shares_later.Goals as goal

pub returns-in-None : goal.returns-in-None
returns-in-None c = λ clear later less found. absurd (none-some later (sym (slice_get_past c.args.leaves.now c.args.m c.in-None.ensures.lookup.3) ∙ found))

pub returns-in-Some : goal.returns-in-Some
returns-in-Some c =
    let types = c.args.types.now in let leaves = c.args.leaves.now in let m = c.args.m in let later = c.in-Some.later.now in let leaf = c.args.leaf.now in
    let at : slice_get leaves m ≡ Some later = slice_get_read leaves _ m later refl c.in-Some.ensures.lookup.3.0 c.in-Some.ensures.lookup.1 in
    IfOk-weaker c.have_common.result (λ (b : Bool). MatchBool b (HaveCommon types c.args.ty leaf.prov later.prov) (HaveCommon types c.args.ty leaf.prov later.prov → ⊥))
    (λ (b : Bool). b ≡ false → SharesNot types c.args.ty leaves c.args.n leaf m) (λ b. shares-not types c.args.ty leaves c.args.n leaf m later b at) c.have_common.ensures
