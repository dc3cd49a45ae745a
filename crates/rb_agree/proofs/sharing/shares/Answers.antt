use Rattle.std.proofs.Common.{◌≡◌, Bool, false, List, length, subst}
use Rattle.std.proofs.lemmas.Result.{IfOk-weaker}
use Rattle.rb_layout.specs.declared.layout.Leaf.{Leaf}
use Rattle.rb_agree.specs.inner.Sharing.{IsAlone, SharesNone}
use Rattle.rb_agree.proofs.Grouping.{is-alone}
use Rattle.rb_agree.proofs.sharing.shares.Goals as goal

pub returns-in-Some : goal.returns-in-Some
returns-in-Some c =
    let leaves = c.args.layout.now.leaves in
    IfOk-weaker c.shares_with.result
    (λ (b : Bool). b ≡ false → SharesNone c.args.types.now c.args.ty c.as_slice.result.now c.args.n c.args.leaf.now c.in-Some.members.now (length c.in-Some.members.now))
    (λ (b : Bool). b ≡ false → IsAlone c.args.types.now c.args.ty leaves c.args.n c.args.leaf.now)
    (λ b none clear.
    is-alone c.args.types.now c.args.ty leaves c.args.n c.args.leaf.now c.requires.heads.0 c.args.heads.now c.in-Some.members.now c.requires.heads.1 c.requires.leaf c.in-Some.ensures
    (subst (λ (ls : List Leaf). SharesNone c.args.types.now c.args.ty ls c.args.n c.args.leaf.now c.in-Some.members.now (length c.in-Some.members.now)) c.as_slice.ensures (none clear)))
    c.shares_with.ensures
