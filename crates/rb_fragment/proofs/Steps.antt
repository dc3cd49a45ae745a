-- What single instructions do: each leaves its word in the slot that it was given.
use Rattle.std.proofs.Common.{◌≡◌, ◌≢◌, ℕ, ◌+◌, ◌*◌, ◌%◌, ◌^◌, ◌<◌, ◌≤◌, List, length, Ok, refl, sym, subst, ap, arith, get_or-set_same, get_or-set_other}
use Rattle.std.proofs.Math.Nat.{mod-eq_of_lt}
use Rattle.std.specs.Prelude.{slice_index, slice_set}
use Rattle.rb_bits.specs.Words.{IsRange, take_of, put_of}
use Rattle.rb_bytes.specs.Memory.{Memory, IsGood, IsWidth, load_of}
use Rattle.rb_bytes.proofs.GrowthLemmas.{address_small}
use Rattle.rb_target.specs.declared.instr.AluOp.{AluOp}
use Rattle.rb_target.specs.declared.instr.AluOp.TheVariants.{Mul}
use Rattle.rb_target.specs.declared.instr.Instr.TheVariants.{Const, Copy, Alu, Take, Put, Load}
use Rattle.rb_target.specs.Meaning.{CallEnd, after_load, alu_of}
use Rattle.rb_target.specs.Sheet.{Sheet, with_more, with_slot}
use Rattle.rb_fragment.specs.Plan.{Plan}
use Rattle.rb_fragment.specs.Pieces.{Straight}
use Rattle.rb_fragment.proofs.Pieces.{straight_one, straight_write}

pub set_same : (s : List ℕ) (d x : ℕ) → d < length s → slice_index (slice_set s d x) d ≡ x
set_same s d x lt = get_or-set_same s d x 0 lt

pub set_other : (s : List ℕ) (d k x : ℕ) → k ≢ d → slice_index (slice_set s d x) k ≡ slice_index s k
set_other s d k x ne = get_or-set_other s d k x 0 ne

-- `Good` is what is wanted of the word, wherever it will stand
module _ (plan : Plan) (n : ℕ) (b : Sheet) (le : n ≤ b.slots) (Good : ℕ → Memory → Type 0) where
  pub straight_const : (c : ℕ) → c < 2 ^ 64 → Straight plan n b (with_more (with_slot b) (Const b.slots c)) (λ s m. Good c m) (λ s m. Good (slice_index s b.slots) m)
  straight_const c small =
      straight_one plan n b (Const b.slots c) (λ s m. Good c m) (λ s m. Good (slice_index s b.slots) m) le (0, omega arith, refl)
      (record { bounded = small; slots_fit = omega arith; targets = tt; calls = tt })
      (λ next callee pc s w inside pre. (c, refl, subst (λ k. Good k w.memory) (sym (set_same s b.slots c inside)) pre))

  pub straight_copy : (a : ℕ) → a < b.slots → Straight plan n b (with_more (with_slot b) (Copy b.slots a)) (λ s m. Good (slice_index s a) m) (λ s m. Good (slice_index s b.slots) m)
  straight_copy a lt =
      straight_one plan n b (Copy b.slots a) (λ s m. Good (slice_index s a) m) (λ s m. Good (slice_index s b.slots) m) le (0, omega arith, refl)
      (record { bounded = tt; slots_fit = (omega arith, omega (arith, lt)); targets = tt; calls = tt })
      (λ next callee pc s w inside pre. (slice_index s a, refl, subst (λ k. Good k w.memory) (sym (set_same s b.slots (slice_index s a) inside)) pre))

  pub straight_take : (a o l : ℕ) → a < b.slots → IsRange o l
      → Straight plan n b (with_more (with_slot b) (Take b.slots a o l)) (λ s m. Good (take_of (slice_index s a) o l) m) (λ s m. Good (slice_index s b.slots) m)
  straight_take a o l lt range =
      straight_one plan n b (Take b.slots a o l) (λ s m. Good (take_of (slice_index s a) o l) m) (λ s m. Good (slice_index s b.slots) m) le (0, omega arith, refl)
      (record { bounded = range; slots_fit = (omega arith, omega (arith, lt)); targets = tt; calls = tt })
      (λ next callee pc s w inside pre.
      let word = take_of (slice_index s a) o l in (word, refl, subst (λ k. Good k w.memory) (sym (set_same s b.slots word inside)) pre))

  pub straight_alu : (op : AluOp) (bits x y : ℕ) → 1 ≤ bits → bits ≤ 64 → x < b.slots → y < b.slots
      → Straight plan n b (with_more (with_slot b) (Alu op bits b.slots x y)) (λ s m. Good (alu_of op bits (slice_index s x) (slice_index s y)) m) (λ s m. Good (slice_index s b.slots) m)
  straight_alu op bits x y low high lx ly =
      straight_one plan n b (Alu op bits b.slots x y) (λ s m. Good (alu_of op bits (slice_index s x) (slice_index s y)) m) (λ s m. Good (slice_index s b.slots) m) le (0, omega arith, refl)
      (record { bounded = (low, high); slots_fit = (omega arith, omega (arith, lx), omega (arith, ly)); targets = tt; calls = tt })
      (λ next callee pc s w inside pre.
      let word = alu_of op bits (slice_index s x) (slice_index s y) in (word, refl, subst (λ k. Good k w.memory) (sym (set_same s b.slots word inside)) pre))

  -- what can be loaded, and is good
  pub straight_load : (a byte width : ℕ) → a < b.slots → byte ≤ 511 → IsWidth width
      → Straight plan n b (with_more (with_slot b) (Load b.slots a byte width)) (λ s m. (word : ℕ) × (load_of m (slice_index s a) byte width ≡ Ok word) × Good word m) (λ s m. Good (slice_index s b.slots) m)
  straight_load a byte width lt low wide =
      straight_one plan n b (Load b.slots a byte width) (λ s m. (word : ℕ) × (load_of m (slice_index s a) byte width ≡ Ok word) × Good word m) (λ s m. Good (slice_index s b.slots) m) le (0, omega arith, refl)
      (record { bounded = (low, wide); slots_fit = (omega arith, omega (arith, lt)); targets = tt; calls = tt })
      (λ next callee pc s w inside pre.
      let go : ℕ → CallEnd = λ word. next (pc + 1) (slice_set s b.slots word) w in
      (pre.0, ap (λ q. after_load q w go) pre.1, subst (λ k. Good k w.memory) (sym (set_same s b.slots pre.0 inside)) pre.2))

  -- low bits of a slot put into the range of another, which is not kept
  pub straight_put : (d a o l : ℕ) → n ≤ d → d < b.slots → a < b.slots → IsRange o l
      → Straight plan n b (with_more b (Put d a o l)) (λ s m. Good (put_of (slice_index s d) o l (slice_index s a % 2 ^ l)) m) (λ s m. Good (slice_index s d) m)
  straight_put d a o l high ld la range =
      straight_write plan n b (Put d a o l) d (λ s m. Good (put_of (slice_index s d) o l (slice_index s a % 2 ^ l)) m) (λ s m. Good (slice_index s d) m) le high
      (record { bounded = range; slots_fit = (omega (arith, ld), omega (arith, la)); targets = tt; calls = tt })
      (λ next callee pc s w long pre.
      let word = put_of (slice_index s d) o l (slice_index s a % 2 ^ l) in
      (word, refl, subst (λ k. Good k w.memory) (sym (set_same s d word (omega (arith, long, ld)))) pre))

-- An address from which something is loaded is small, so that a product which is one does not wrap round.
pub product_whole : (m : Memory) (x y byte width r : ℕ) → IsGood m → load_of m (x * y) byte width ≡ Ok r → alu_of Mul 64 x y ≡ x * y
product_whole m x y byte width r good is = let low = address_small m (x * y) byte width r good is in mod-eq_of_lt (omega (arith, low))
