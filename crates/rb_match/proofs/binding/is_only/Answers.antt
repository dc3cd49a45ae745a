use Rattle.std.proofs.Common.{◌≡◌, ℕ, ◌+◌, ◌⊎◌, inl, inr, arith, subst}
use Rattle.rb_core.specs.declared.pattern.Pat.{Pat}
use Rattle.rb_layout.specs.declared.agreed.LaidOut.{LaidOut}
use Rattle.rb_target.proofs.Growing.{below_or}
use Rattle.rb_match.specs.inner.Binding.{IsLeftOut, IsOnly}
use Rattle.rb_match.proofs.binding.is_only.Goals as goal
use Rattle.rb_match.proofs.binding.is_only.Goals.{then-i-leaf+else-may_have, else-i-leaf}

-- one leaf more
next_only : (agreed : LaidOut) (t : ℕ) (p : Pat) (leaf i : ℕ) → IsOnly agreed t p leaf i → (i ≡ leaf) ⊎ IsLeftOut agreed t p i → IsOnly agreed t p leaf (i + 1)
next_only agreed t p leaf i all one n lt = elim (below_or n i) [
  | inl less ↦ all n less
  | inr more ↦ (let at : i ≡ n = omega (arith, lt, more) in subst (λ k. (k ≡ leaf) ⊎ IsLeftOut agreed t p k) at one)
]

pub loop-i-preserved : goal.loop-i-preserved
loop-i-preserved c =
    next_only c.args.agreed.now c.args.ty c.args.pat.now c.args.leaf c.loop-i.i c.loop-i.invariant
    (elim c.if-i-leaf.branch [ then-i-leaf+else-may_have w ↦ inr (w.may_have.ensures w.if-may_have.false) | else-i-leaf w ↦ inl (omega (arith, w.if-i-leaf.false)) ])

pub returns : goal.returns
returns c = λ t n lt. c.loop-i.invariant n (omega (arith, lt, c.loop-i-test.false, c.count_leaves-count.ensures))
