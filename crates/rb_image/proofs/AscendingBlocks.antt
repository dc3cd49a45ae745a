-- Blocks in their places ascend, so the first that does not begin below an address is the block that begins there, if any does.
use Rattle.std.proofs.Common.{◌≡◌, ℕ, zero, suc, ◌+◌, ◌-◌, ◌<◌, ◌≤◌, nat_eq, inl, inr, true, false, List, [], ◌∷◌, length, Option, Some, None, refl, sym, ap, ◌∙◌, arith}
use Rattle.std.specs.Prelude.{slice_get, if◌then◌else◌}
use Rattle.std.proofs.lemmas.Grind.{common_steps}
use Rattle.std.proofs.lemmas.Bool.{cases_lt}
use Rattle.std.proofs.lemmas.Option.{same_Some, slice_get_within}
use Rattle.rb_rel.proofs.Lists.{got}
use Rattle.rb_image_text.specs.declared.image.ImageBlock.{ImageBlock}
use Rattle.rb_image_text.specs.Places.{AreInPlace, end_of}
use Rattle.rb_image.specs.Blocks.{block_at}
use Rattle.rb_image.specs.inner.Halving.{IsFirstFrom}

module _ (blocks : List ImageBlock) (placed : AreInPlace blocks) where
  next_above : (j : ℕ) (a b : ImageBlock) → slice_get blocks j ≡ Some a → slice_get blocks (suc j) ≡ Some b → a.at ≤ b.at
  next_above j a b ea eb =
      let h = (placed (suc j) b (slice_get_within blocks (suc j) b eb) eb).behind in
      let e : end_of (slice_get blocks j) ≡ a.at + length a.bytes = ap end_of ea in
      omega (arith, h, e)

  ascend_by : (d i : ℕ) (a b : ImageBlock) (j : ℕ) → j ≡ i + d → slice_get blocks i ≡ Some a → slice_get blocks j ≡ Some b → a.at ≤ b.at
  ascend_by zero i a b j e ea eb =
      let z : i ≡ j = omega (arith, e) in
      let same : a ≡ b = same_Some a b (sym ea ∙ ap (slice_get blocks) z ∙ eb) in
      let at = ap (λ (x : ImageBlock). x.at) same in omega (arith, at)
  ascend_by (suc d) i a b zero e ea eb = absurd (omega (arith, e))
  ascend_by (suc d) i a b (suc j) e ea eb =
      let lt = slice_get_within blocks (suc j) b eb in
      let c = got blocks j (omega (arith, lt)) in
      let low = ascend_by d i a c.0 j (omega (arith, e)) ea c.1 in
      let high = next_above j c.0 b c.1 eb in
      omega (arith, low, high)

  -- a block does not begin below one before it
  pub ascend : (i j : ℕ) (a b : ImageBlock) → i ≤ j → slice_get blocks i ≡ Some a → slice_get blocks j ≡ Some b → a.at ≤ b.at
  ascend i j a b le ea eb = ascend_by (j - i) i a b j (omega (arith, le)) ea eb

  -- no block ends behind the last
  pub end_last : (n : ℕ) (b : ImageBlock) → n ≡ length blocks - 1 → slice_get blocks n ≡ Some b → (k : ℕ) (c : ImageBlock) → slice_get blocks k ≡ Some c → c.at + length c.bytes ≤ b.at + length b.bytes
  end_last n b last is k c at =
      let within = slice_get_within blocks k c at in
      let here = slice_get_within blocks n b is in
      elim (cases_lt k n) [
        | inl lt ↦ (let d = got blocks (suc k) (omega (arith, here, lt)) in
            let behind = (placed (suc k) d.0 (slice_get_within blocks (suc k) d.0 d.1) d.1).behind in
            let end : end_of (slice_get blocks k) ≡ c.at + length c.bytes = ap end_of at in
            let low = ascend (suc k) n d.0 b (omega (arith, lt)) d.1 is in
            omega (arith, behind, end, low))
        | inr le ↦ (let z : k ≡ n = omega (arith, last, le, within) in
            let same = same_Some c b (sym at ∙ ap (slice_get blocks) z ∙ is) in
            let end = ap (λ (x : ImageBlock). x.at + length x.bytes) same in omega (arith, end))
      ]

-- what the block of one number says of those before it, or behind it
module _ (blocks : List ImageBlock) (placed : AreInPlace blocks) (address m : ℕ) (c : ImageBlock) (is : slice_get blocks m ≡ Some c) where
  pub below_after : c.at < address → (i : ℕ) (b : ImageBlock) → i < m + 1 → slice_get blocks i ≡ Some b → b.at < address
  below_after lt i b before e = let low = ascend blocks placed i m b c (omega (arith, before)) e is in omega (arith, low, lt)

  pub above_from : address ≤ c.at → (i : ℕ) (b : ImageBlock) → m ≤ i → slice_get blocks i ≡ Some b → address ≤ b.at
  above_from le i b behind e = let high = ascend blocks placed m i c b behind is e in omega (arith, high, le)

-- The block at an address ---------------------------------------------------------------------
apart : (a b : ℕ) → (a ≡ b → ⊥) → nat_eq a b ≡ false
apart a b ne = grind (arith, common_steps)

alike : (a b : ℕ) → a ≡ b → nat_eq a b ≡ true
alike a b e = grind (arith, common_steps)

module _ (address : ℕ) where
  pub none_there : (bs : List ImageBlock) → ((i : ℕ) (b : ImageBlock) → slice_get bs i ≡ Some b → b.at ≡ address → ⊥) → block_at bs address ≡ None
  none_there [] none = refl
  none_there (b ∷ bs) none =
      ap (λ t. if t then Some b else block_at bs address) (apart b.at address (none zero b refl)) ∙ none_there bs (λ i c e. none (suc i) c e)

  pub one_there : (bs : List ImageBlock) (k : ℕ) (b : ImageBlock) → ((i : ℕ) (c : ImageBlock) → i < k → slice_get bs i ≡ Some c → c.at < address)
      → slice_get bs k ≡ Some b → b.at ≡ address → block_at bs address ≡ Some b
  one_there [] k b below e at = absurd cc
  one_there (c ∷ bs) zero b below e at =
      let same = same_Some c b e in
      ap (λ t. if t then Some c else block_at bs address) (alike c.at address (ap (λ (x : ImageBlock). x.at) same ∙ at)) ∙ ap Some same
  one_there (c ∷ bs) (suc k) b below e at =
      let lt = below zero c (omega arith) refl in
      ap (λ t. if t then Some c else block_at bs address) (apart c.at address (λ h. omega (arith, lt, h)))
      ∙ one_there bs k b (λ i d l f. below (suc i) d (omega (arith, l)) f) e at

module _ (blocks : List ImageBlock) (placed : AreInPlace blocks) (address k : ℕ) (first : IsFirstFrom blocks address k) where
  beyond : (n : ℕ) → n ≡ k → slice_get blocks n ≡ None → (i : ℕ) (b : ImageBlock) → slice_get blocks i ≡ Some b → b.at ≡ address → ⊥
  beyond n e none i b is at =
      elim (cases_lt i k) [
        | inl lt ↦ (let low = first.below i b lt is in omega (arith, low, at))
        | inr le ↦ (let within = slice_get_within blocks i b is in
            let g = got blocks n (omega (arith, e, le, within)) in
            let z : ◌≡◌ {A = Option ImageBlock} None (Some g.0) = sym none ∙ g.1 in absurd cc)
      ]

  pub no_block : slice_get blocks k ≡ None → block_at blocks address ≡ None
  no_block none = none_there address blocks (beyond k refl none)

  pub the_block : (b : ImageBlock) → slice_get blocks k ≡ Some b → b.at ≡ address → block_at blocks address ≡ Some b
  the_block b is at = one_there address blocks k b first.below is at

  pub other_block : (b : ImageBlock) → slice_get blocks k ≡ Some b → (b.at ≡ address → ⊥) → block_at blocks address ≡ None
  other_block b is ne = none_there address blocks (λ i c e at.
      elim (cases_lt i k) [
        | inl lt ↦ (let low = first.below i c lt e in omega (arith, low, at))
        | inr le ↦ (let up = ascend blocks placed k i b c le is e in let here = first.above k b (omega arith) is in ne (omega (arith, up, here, at)))
      ])
