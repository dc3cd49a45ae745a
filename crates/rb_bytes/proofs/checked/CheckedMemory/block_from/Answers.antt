use Rattle.std.proofs.Common.{◌≡◌, ℕ, ◌+◌, ◌<◌, ◌≤◌, map, Some, None, sym, ap, ◌∙◌, arith, inl, inr}
use Rattle.std.proofs.lemmas.Bool.{cases_lt}
use Rattle.rb_bytes.specs.Memory.{byte_at}
use Rattle.rb_bytes.specs.Starts.{size_in}
use Rattle.rb_bytes.proofs.CheckedLemmas.{start_here, no_start, size_in_some}
use Rattle.rb_bytes.proofs.StartLemmas.{find_some, find_none}
use Rattle.rb_bytes.proofs.checked.CheckedMemory.block_from.Goals as goal

pub returns-in_default : goal.returns-in_default
returns-in_default c =
    let sizes = c.self.inside.sizes.items in
    let at = c.loop-at.at in
    let size = c.index.result.now in
    let pos : 0 < size = omega (arith, c.in_default) in
    let here = start_here sizes at size (omega arith) ∙ ap size_in (sym c.index.ensures) in
    let found = here ∙ size_in_some size pos ∙ ap Some (sym c.from.ensures) in
    rw (← c.self.view_is) (sym (find_some (map size_in sizes) c.args.address at c.from.result (omega arith) found (λ j lt le. c.loop-at.invariant j le lt)))

pub loop-at-preserved : goal.loop-at-preserved
loop-at-preserved c a le lt =
    let sizes = c.self.inside.sizes.items in
    let at = c.loop-at.at in
    let here = start_here sizes at c.index.result.now (omega arith) ∙ ap size_in (sym c.index.ensures) ∙ ap size_in c.in-0.is in
    elim (cases_lt a at) [
      | inl before ↦ c.loop-at.invariant a le before
      | inr from ↦ let e : a ≡ at = omega arith in ap (byte_at (map size_in sizes)) e ∙ here
    ]

pub returns : goal.returns
returns c =
    let sizes = c.self.inside.sizes.items in
    let at = c.loop-at.at in
    let none : (i : ℕ) → c.args.address ≤ 0 + i → byte_at (map size_in sizes) i ≡ None = λ i le. elim (cases_lt i at) [
      | inl before ↦ c.loop-at.invariant i (omega arith) before
      | inr from ↦ no_start sizes i (omega arith)
    ] in
    rw (← c.self.view_is) (sym (find_none (map size_in sizes) 0 c.args.address none))
