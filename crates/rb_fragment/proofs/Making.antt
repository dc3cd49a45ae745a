-- Code that makes reads, form by form.
use Rattle.std.proofs.Common.{◌≡◌, ℕ, zero, suc, ◌+◌, ◌*◌, ◌%◌, ◌^◌, ◌/◌, ◌&&◌, ◌<◌, ◌≤◌, ◌==◌, ◌⊎◌, inl, inr, Bool, true, false, List, [], ◌∷◌, map, length, Option, Some, None, Result, Ok, Err, refl, sym, ap, ◌∙◌, arith, drop, eqb-true}
use Rattle.std.proofs.lemmas.Bool.Decides.{nat_tests}
use Rattle.std.proofs.lemmas.Grind.{common_steps}
use Rattle.std.proofs.lemmas.Option.{same_Some}
use Rattle.std.proofs.Math.Nat.{mod-eq_of_lt}
use Rattle.std.proofs.lemmas.Nat.{mul-mod_first}
use Rattle.std.specs.Prelude.{bit_and, slice_index, slice_set, nat_le}
use Rattle.std.specs.List.{list_all}
use Rattle.std.proofs.lemmas.Bool.{and_parts}
use Rattle.rb_core.specs.WellNumbered.{either}
use Rattle.rb_bits.specs.Words.{IsRange, mask_of, take_of, put_of}
use Rattle.rb_bits.proofs.WordLemmas.{mask_fits, take_fits}
use Rattle.rb_bytes.specs.Memory.{Memory, IsGood, IsWidth, load_of}
use Rattle.rb_bytes.specs.declared.fault.Trap.{Trap}
use Rattle.rb_target.specs.declared.instr.AluOp.TheVariants.{And, Mul}
use Rattle.rb_target.specs.declared.instr.Instr.TheVariants.{Const, Alu, Take, Put, Load}
use Rattle.rb_target.specs.Growth.{Keeps}
use Rattle.rb_target.specs.Meaning.{alu_of}
use Rattle.rb_target.specs.Sheet.{Sheet, with_more, with_slot}
use Rattle.rb_target.proofs.Growing.{Keeps-set}
use Rattle.rb_fragment.specs.declared.reads.Read.{Read, Slot, Number, Bits, Address, Loaded, Joined}
use Rattle.rb_fragment.specs.declared.reads.Share.{Share}
use Rattle.rb_fragment.specs.Plan.{Plan}
use Rattle.rb_fragment.specs.Adding.{Adds}
use Rattle.rb_fragment.specs.Pieces.{Straight, AtEnd}
use Rattle.rb_fragment.specs.Reads.{where_some, word_of_load, Meant, joined_over, mean, meant_of, is_range, is_width, fits, fits_share, MakesReadIn}
use Rattle.rb_fragment.specs.inner.Addresses.{multiple}
use Rattle.rb_fragment.specs.inner.Shares.{PutsOne, PutsShare, PutsAll, PutsShares, PutsSome}
use Rattle.rb_fragment.proofs.Adding.{Adds-refl, Adds-trans, Adds-one, push_adds}
use Rattle.rb_fragment.proofs.Pieces.{piece_none, piece_weaken, straight_seq, straight_weaken, straight_frame, straight_write}
use Rattle.rb_fragment.proofs.Masks.{masked}
use Rattle.rb_fragment.proofs.Steps.{set_same, straight_const, straight_take, straight_alu, straight_load}
use Rattle.rb_fragment.proofs.ReadForms.{mean-Slot, mean-Number, mean-Bits, mean-Address, mean-Loaded, mean-Joined, meant-is, fits-Slot, fits-Bits, fits-Address, fits-Loaded, fits-Joined, fits-Share, over-kept}

-- Tests and what they say

pub range_is : (o l : ℕ) → is_range o l ≡ true → IsRange o l
range_is o l h =
    let f = and_parts (nat_le 1 l) (nat_le (o + l) 64) h in
    let low : 1 ≤ l = grind (arith, nat_tests, f.0) in let high : o + l ≤ 64 = grind (arith, nat_tests, f.1) in (low, high)

either_is : (a b : Bool) (A B : Type 0) → (a ≡ true → A) → (b ≡ true → B) → either a b ≡ true → A ⊎ B
either_is true b A B f g h = inl (f refl)
either_is false b A B f g h = inr (g h)

pub width_is : (w : ℕ) → is_width w ≡ true → IsWidth w
width_is w h =
    either_is (w == 8) _ (w ≡ 8) _ (eqb-true w 8)
    (λ h1. either_is (w == 16) _ (w ≡ 16) _ (eqb-true w 16) (λ h2. either_is (w == 32) _ (w ≡ 32) (w ≡ 64) (eqb-true w 32) (eqb-true w 64) h2) h1) h

some_then : (o : Option ℕ) (go : ℕ → Option ℕ) (x : ℕ) → where_some o go ≡ Some x → (w : ℕ) × (o ≡ Some w) × (go w ≡ Some x)
some_then None go x e = cc
some_then (Some w) go x e = (w, refl, e)

loaded_ok : (r : Result ℕ Trap) (x : ℕ) → word_of_load r ≡ Some x → r ≡ Ok x
loaded_ok (Ok w) x e = ap (λ k. Ok k) (same_Some w x e)
loaded_ok (Err t) x e = cc

pub drop_past : (xs : List Share) (i : ℕ) → length xs ≤ i → drop i xs ≡ []
drop_past [] zero le = refl
drop_past [] (suc i) le = refl
drop_past (x ∷ xs) zero le = absurd (omega (arith, le))
drop_past (x ∷ xs) (suc i) le = drop_past xs i (omega (arith, le))

module _ (plan : Plan) where
  -- straight code from where some number is known
  pub straight_some : (n : ℕ) (a b : Sheet) (W : Type 0) (PreW : W → List ℕ → Memory → Type 0) (Pre Post : List ℕ → Memory → Type 0) → Adds plan a b → n ≤ a.slots
      → ((s : List ℕ) (m : Memory) → Pre s m → (w : W) × PreW w s m) → ((w : W) → Straight plan n a b (PreW w) Post) → Straight plan n a b Pre Post
  straight_some n a b W PreW Pre Post adds le pick each = record {
    adds = adds;
    low = le;
    runs = λ final callee next law agrees s w long pre. let p = pick s w.memory pre in (each p.0).runs final callee next law agrees s w long p.1;
  }

  -- a read, and code that makes another number of its
  module _ (r q : Read) (a b c : Sheet) (xs slot : ℕ) (made : MakesReadIn plan r a b xs) (more : Adds plan b c) (given : slot < c.slots) (G : ℕ → ℕ → Memory → Type 0)
      (opened : (s : List ℕ) (m : Memory) (x : ℕ) → mean q s m ≡ Some x → (w : ℕ) × (mean r s m ≡ Some w) × G w x m)
      (rest : (w x : ℕ) → Straight plan a.slots b c (λ s m. (IsGood m × G w x m) × (slice_index s xs ≡ w)) (λ s m. slice_index s slot ≡ x)) where
    then_makes : MakesReadIn plan q a c slot
    then_makes = record {
      adds = Adds-trans plan a b c made.adds more;
      given = given;
      runs = λ x.
          let Frame : ℕ → List ℕ → Memory → Type 0 = λ w s m. IsGood m × G w x m in
          let Inner : ℕ → List ℕ → Memory → Type 0 = λ w s m. IsGood m × (mean r s m ≡ Some w) in
          let Mid : ℕ → List ℕ → Memory → Type 0 = λ w s m. slice_index s xs ≡ w in
          let Post : List ℕ → Memory → Type 0 = λ s m. slice_index s slot ≡ x in
          straight_some a.slots a c ℕ (λ w s m. Frame w s m × Inner w s m) (λ s m. IsGood m × (mean q s m ≡ Some x)) Post (Adds-trans plan a b c made.adds more) (omega arith)
          (λ s m pre. let o = opened s m x pre.1 in (o.0, ((pre.0, o.2), (pre.0, o.1))))
          (λ w. straight_seq plan a.slots a b c (λ s m. Frame w s m × Inner w s m) (λ s m. Frame w s m × Mid w s m) Post
          (straight_frame plan a.slots a b (Frame w) (Inner w) (Mid w) (λ s s' m k f. f) (made.runs w)) (rest w x));
    }

  pub made_slot : (x : ℕ) (a : Sheet) (k : ℕ) → k ≤ a.slots → fits k (Slot x) ≡ true → MakesReadIn plan (Slot x) a a x
  made_slot x a k le fit =
      let lt : x < k = (let t = sym (fits-Slot k x) ∙ fit in grind (arith, nat_tests, t)) in
      record {
        adds = Adds-refl plan a;
        given = omega (arith, lt, le);
        runs = λ y. piece_none plan a.slots a (λ s m. IsGood m × (mean (Slot x) s m ≡ Some y)) (λ s m. slice_index s x ≡ y) (omega arith)
            (λ s m pre. same_Some (slice_index s x) y (sym (mean-Slot x s m) ∙ pre.1));
      }

  pub made_number : (c : ℕ) (a : Sheet) → c < 2 ^ 64 → MakesReadIn plan (Number c) a (with_more (with_slot a) (Const a.slots c)) a.slots
  made_number c a small = record {
    adds = Adds-one plan a (Const a.slots c) (0, omega arith, refl) (record { bounded = small; slots_fit = omega arith; targets = tt; calls = tt });
    given = omega arith;
    runs = λ x.
        let b = with_more (with_slot a) (Const a.slots c) in
        straight_weaken plan a.slots a b (λ s m. c ≡ x) (λ s m. IsGood m × (mean (Number c) s m ≡ Some x)) (λ s m. slice_index s a.slots ≡ x) (λ s m. slice_index s a.slots ≡ x)
        (λ s m pre. same_Some c x (sym (mean-Number c s m) ∙ pre.1)) (λ s m p. p) (straight_const plan a.slots a (omega arith) (λ k m. k ≡ x) c small);
  }

  pub made_bits : (r : Read) (o l : ℕ) (a b : Sheet) (xs k : ℕ) → fits k (Bits r o l) ≡ true → MakesReadIn plan r a b xs → MakesReadIn plan (Bits r o l) a (with_more (with_slot b) (Take b.slots xs o l)) b.slots
  made_bits r o l a b xs k fit made =
      let range = range_is o l (and_parts (fits k r) (is_range o l) (sym (fits-Bits k r o l) ∙ fit)).1 in
      let c = with_more (with_slot b) (Take b.slots xs o l) in
      then_makes r (Bits r o l) a b c xs b.slots made
      (Adds-one plan b (Take b.slots xs o l) (0, omega arith, refl) (record { bounded = range; slots_fit = (omega arith, omega (arith, made.given)); targets = tt; calls = tt })) (omega arith)
      (λ w x m. take_of w o l ≡ x)
      (λ s m x e. let h = some_then (mean r s m) (λ w. Some (take_of w o l)) x (sym (mean-Bits r o l s m) ∙ e) in (h.0, h.1, same_Some (take_of h.0 o l) x h.2))
      (λ w x. straight_weaken plan a.slots b c (λ s m. take_of (slice_index s xs) o l ≡ x) (λ s m. (IsGood m × (take_of w o l ≡ x)) × (slice_index s xs ≡ w)) (λ s m. slice_index s b.slots ≡ x) (λ s m. slice_index s b.slots ≡ x)
      (λ s m pre. ap (λ y. take_of y o l) pre.1 ∙ pre.0.1) (λ s m p. p) (straight_take plan a.slots b made.adds.more (λ y m. y ≡ x) xs o l made.given range))

  pub made_loaded : (r : Read) (byte width : ℕ) (a b : Sheet) (xs k : ℕ) → fits k (Loaded r byte width) ≡ true → MakesReadIn plan r a b xs → MakesReadIn plan (Loaded r byte width) a (with_more (with_slot b) (Load b.slots xs byte width)) b.slots
  made_loaded r byte width a b xs k fit made =
      let f = and_parts (nat_le byte 511) (is_width width) (and_parts (fits k r) _ (sym (fits-Loaded k r byte width) ∙ fit)).1 in
      let low : byte ≤ 511 = grind (arith, nat_tests, f.0) in
      let wide = width_is width f.1 in
      let c = with_more (with_slot b) (Load b.slots xs byte width) in
      then_makes r (Loaded r byte width) a b c xs b.slots made
      (Adds-one plan b (Load b.slots xs byte width) (0, omega arith, refl) (record { bounded = (low, wide); slots_fit = (omega arith, omega (arith, made.given)); targets = tt; calls = tt })) (omega arith)
      (λ w x m. load_of m w byte width ≡ Ok x)
      (λ s m x e. let h = some_then (mean r s m) (λ w. word_of_load (load_of m w byte width)) x (sym (mean-Loaded r byte width s m) ∙ e) in (h.0, h.1, loaded_ok (load_of m h.0 byte width) x h.2))
      (λ w x. straight_weaken plan a.slots b c (λ s m. (word : ℕ) × (load_of m (slice_index s xs) byte width ≡ Ok word) × (word ≡ x)) (λ s m. (IsGood m × (load_of m w byte width ≡ Ok x)) × (slice_index s xs ≡ w)) (λ s m. slice_index s b.slots ≡ x) (λ s m. slice_index s b.slots ≡ x)
      (λ s m pre. (x, ap (λ y. load_of m y byte width) pre.1 ∙ pre.0.1, refl)) (λ s m p. p) (straight_load plan a.slots b made.adds.more (λ y m. y ≡ x) xs byte width made.given low wide))

  straight_fewer : (n n' : ℕ) (a b : Sheet) (Pre Post : List ℕ → Memory → Type 0) → n' ≤ n → Straight plan n a b Pre Post → Straight plan n' a b Pre Post
  straight_fewer n n' a b Pre Post le p = piece_weaken plan n n' a b (λ pc. ⊥) 0 0 Pre Pre (AtEnd b Post) (AtEnd b Post) le (omega arith) (λ s m x. x) (λ pc s m x. x) p

  -- a number times a unit, where that is another read
  module _ (p q : Read) (unit : ℕ) (a b : Sheet) (xs : ℕ) (small : unit < 2 ^ 64) (made : MakesReadIn plan p a b xs)
      (opened : (s : List ℕ) (m : Memory) (x : ℕ) → mean q s m ≡ Some x → (w : ℕ) × (mean p s m ≡ Some w) × (w * unit % 2 ^ 64 ≡ x)) where
    abbrev b1 : Sheet
    b1 = with_more (with_slot b) (Const b.slots unit)

    abbrev b2 : Sheet
    b2 = multiple xs unit b

    product_adds : Adds plan b b2
    product_adds =
        Adds-trans plan b b1 b2 (Adds-one plan b (Const b.slots unit) (0, omega arith, refl) (record { bounded = small; slots_fit = omega arith; targets = tt; calls = tt }))
        (Adds-one plan b1 (Alu Mul 64 b1.slots xs b.slots) (0, omega arith, refl) (record { bounded = (omega arith, omega arith); slots_fit = (omega arith, omega (arith, made.given), omega arith); targets = tt; calls = tt }))

    product : (w x : ℕ) → Straight plan a.slots b b2 (λ s m. (IsGood m × (w * unit % 2 ^ 64 ≡ x)) × (slice_index s xs ≡ w)) (λ s m. slice_index s b1.slots ≡ x)
    product w x =
        let P0 : List ℕ → Memory → Type 0 = λ s m. (IsGood m × (w * unit % 2 ^ 64 ≡ x)) × (slice_index s xs ≡ w) in
        let P1 : List ℕ → Memory → Type 0 = λ s m. alu_of Mul 64 (slice_index s xs) (slice_index s b.slots) ≡ x in
        let P2 : List ℕ → Memory → Type 0 = λ s m. slice_index s b1.slots ≡ x in
        let le : a.slots ≤ b.slots = made.adds.more in
        let first : Straight plan a.slots b b1 P0 P1 =
        straight_fewer b.slots a.slots b b1 P0 P1 le
        (straight_weaken plan b.slots b b1 (λ s m. P0 s m × (unit ≡ unit)) P0 (λ s m. P0 s m × (slice_index s b.slots ≡ unit)) P1
        (λ s m h. (h, refl))
        (λ s m (((_, product_is), read), one). ap (λ y. y * slice_index s b.slots % 2 ^ 64) read ∙ ap (λ y. w * y % 2 ^ 64) one ∙ product_is)
        (straight_frame plan b.slots b b1 P0 (λ s m. unit ≡ unit) (λ s m. slice_index s b.slots ≡ unit) (λ s s' m kept h. (h.0, kept.same xs made.given ∙ h.1))
        (straight_const plan b.slots b (omega arith) (λ y m. y ≡ unit) unit small))) in
        let last : Straight plan a.slots b1 b2 P1 P2 = straight_alu plan a.slots b1 (omega (arith, le)) (λ y m. y ≡ x) Mul 64 xs b.slots (omega arith) (omega arith) (omega (arith, made.given)) (omega arith) in
        straight_seq plan a.slots b b1 b2 P0 P1 P2 first last

    made_multiple : MakesReadIn plan q a b2 b1.slots
    made_multiple = then_makes p q a b b2 xs b1.slots made product_adds (omega arith) (λ w x m. w * unit % 2 ^ 64 ≡ x) opened product

  -- a range, the unit, and their product
  pub made_address : (r : Read) (o l align : ℕ) (a b : Sheet) (xs k : ℕ) → fits k (Address r o l align) ≡ true → align < 2 ^ 64 → MakesReadIn plan r a b xs
      → let c = with_more (with_slot b) (Take b.slots xs o l) in MakesReadIn plan (Address r o l align) a (multiple b.slots align c) (c.slots + 1)
  made_address r o l align a b xs k fit small made =
      let c = with_more (with_slot b) (Take b.slots xs o l) in
      let fit_bits : fits k (Bits r o l) ≡ true = fits-Bits k r o l ∙ sym (fits-Address k r o l align) ∙ fit in
      made_multiple (Bits r o l) (Address r o l align) align a c b.slots small (made_bits r o l a b xs k fit_bits made)
      (λ s m x e.
      let h = some_then (mean r s m) (λ w. Some (take_of w o l * align % 2 ^ 64)) x (sym (mean-Address r o l align s m) ∙ e) in
      let part = take_of h.0 o l in
      (part, mean-Bits r o l s m ∙ ap (λ v. where_some v (λ w. Some (take_of w o l))) h.1, same_Some (part * align % 2 ^ 64) x h.2))

  -- all bits of a slot, times the unit, are the word itself, times the unit
  pub made_scaled : (r : Read) (o l align : ℕ) (a b : Sheet) (xs : ℕ) → o ≡ 0 → l ≡ 64 → align < 2 ^ 64 → MakesReadIn plan r a b xs → MakesReadIn plan (Address r o l align) a (multiple xs align b) (b.slots + 1)
  made_scaled r o l align a b xs low long small made =
      made_multiple r (Address r o l align) align a b xs small made
      (λ s m x e.
      let h = some_then (mean r s m) (λ w. Some (take_of w o l * align % 2 ^ 64)) x (sym (mean-Address r o l align s m) ∙ e) in
      let w = h.0 in
      let one : w / 2 ^ 0 ≡ w = omega arith in
      let all : take_of w o l ≡ w % 2 ^ 64 = ap (λ i. take_of w i l) low ∙ ap (λ i. take_of w 0 i) long ∙ ap (λ y. y % 2 ^ 64) one in
      (w, h.1, sym (mul-mod_first w align (2 ^ 64)) ∙ ap (λ y. y * align % 2 ^ 64) (sym all) ∙ same_Some (take_of w o l * align % 2 ^ 64) x h.2))

  -- a range that stands in its place, and the bits beside it masked off
  module _ (r : Read) (o l : ℕ) (a b : Sheet) (xs : ℕ) (range : IsRange o l) (made : MakesReadIn plan r a b xs) where
    abbrev m1 : Sheet
    m1 = with_more (with_slot b) (Const b.slots (mask_of o l))

    abbrev m2 : Sheet
    m2 = with_more (with_slot m1) (Alu And 64 m1.slots xs b.slots)

    masking_adds : Adds plan b m2
    masking_adds =
        Adds-trans plan b m1 m2 (Adds-one plan b (Const b.slots (mask_of o l)) (0, omega arith, refl) (record { bounded = mask_fits o l range; slots_fit = omega arith; targets = tt; calls = tt }))
        (Adds-one plan m1 (Alu And 64 m1.slots xs b.slots) (0, omega arith, refl) (record { bounded = (omega arith, omega arith); slots_fit = (omega arith, omega (arith, made.given), omega arith); targets = tt; calls = tt }))

    masking : (w x : ℕ) → Straight plan a.slots b m2 (λ s m. (IsGood m × (take_of w o l * 2 ^ o % 2 ^ 64 ≡ x)) × (slice_index s xs ≡ w)) (λ s m. slice_index s m1.slots ≡ x)
    masking w x =
        let P0 : List ℕ → Memory → Type 0 = λ s m. (IsGood m × (take_of w o l * 2 ^ o % 2 ^ 64 ≡ x)) × (slice_index s xs ≡ w) in
        let P1 : List ℕ → Memory → Type 0 = λ s m. alu_of And 64 (slice_index s xs) (slice_index s b.slots) ≡ x in
        let P2 : List ℕ → Memory → Type 0 = λ s m. slice_index s m1.slots ≡ x in
        let le : a.slots ≤ b.slots = made.adds.more in
        let mask : Straight plan a.slots b m1 P0 P1 =
        straight_fewer b.slots a.slots b m1 P0 P1 le
        (straight_weaken plan b.slots b m1 (λ s m. P0 s m × (mask_of o l ≡ mask_of o l)) P0 (λ s m. P0 s m × (slice_index s b.slots ≡ mask_of o l)) P1
        (λ s m p. (p, refl))
        (λ s m (((_, masked_is), read), mask_is). ap (λ y. bit_and y (slice_index s b.slots) % 2 ^ 64) read ∙ ap (λ y. bit_and w y % 2 ^ 64) mask_is ∙ ap (λ y. y % 2 ^ 64) (masked w o l) ∙ masked_is)
        (straight_frame plan b.slots b m1 P0 (λ s m. mask_of o l ≡ mask_of o l) (λ s m. slice_index s b.slots ≡ mask_of o l) (λ s s' m kept p. (p.0, kept.same xs made.given ∙ p.1))
        (straight_const plan b.slots b (omega arith) (λ y m. y ≡ mask_of o l) (mask_of o l) (mask_fits o l range)))) in
        let last : Straight plan a.slots m1 m2 P1 P2 = straight_alu plan a.slots m1 (omega (arith, le)) (λ y m. y ≡ x) And 64 xs b.slots (omega arith) (omega arith) (omega (arith, made.given)) (omega arith) in
        straight_seq plan a.slots b m1 m2 P0 P1 P2 mask last

    pub made_masked : (align : ℕ) → align ≡ 2 ^ o → MakesReadIn plan (Address r o l align) a m2 m1.slots
    made_masked align unit =
        then_makes r (Address r o l align) a b m2 xs m1.slots made masking_adds (omega arith) (λ w x m. take_of w o l * 2 ^ o % 2 ^ 64 ≡ x)
        (λ s m x e.
        let h = some_then (mean r s m) (λ w. Some (take_of w o l * align % 2 ^ 64)) x (sym (mean-Address r o l align s m) ∙ e) in
        (h.0, h.1, sym (ap (λ i. take_of h.0 o l * i % 2 ^ 64) unit) ∙ same_Some (take_of h.0 o l * align % 2 ^ 64) x h.2)) masking

  -- Shares

  keeps_fewer : (n k : ℕ) (s s' : List ℕ) → k ≤ n → Keeps n s s' → Keeps k s s'
  keeps_fewer n k s s' le kept = record { long = kept.long; same = λ x lt. kept.same x (omega (arith, lt, le)) }

  module _ (p : Share) (a b : Sheet) (xs k d : ℕ) (le : k ≤ d) (lt : d < a.slots) (fit : fits_share k p ≡ true) (made : MakesReadIn plan p.read a b xs) where
    abbrev c1 : Sheet
    c1 = with_more (with_slot b) (Take b.slots xs p.o p.l)

    abbrev c2 : Sheet
    c2 = with_more c1 (Put d b.slots p.a p.l)

    ranges : IsRange p.o p.l × IsRange p.a p.l
    ranges =
        let f = and_parts (is_range p.o p.l) (is_range p.a p.l) (and_parts (fits k p.read) _ (sym (fits-Share k p) ∙ fit)).1 in
        (range_is p.o p.l f.0, range_is p.a p.l f.1)

    take_adds : Adds plan b c1
    take_adds = Adds-one plan b (Take b.slots xs p.o p.l) (0, omega arith, refl) (record { bounded = ranges.0; slots_fit = (omega arith, omega (arith, made.given)); targets = tt; calls = tt })

    put_adds : Adds plan a c2
    put_adds =
        let m = made.adds.more in
        Adds-trans plan a b c2 made.adds (Adds-trans plan b c1 c2 take_adds
        (push_adds plan c1 (Put d b.slots p.a p.l) (record { bounded = ranges.1; slots_fit = (omega (arith, lt, m), omega arith); targets = tt; calls = tt })))

    module _ (rest : List Share) (fits_rest : list_all (λ b. b) (map (fits_share k) rest) ≡ true) (x : ℕ) where
      abbrev From : List ℕ → Memory → Type 0
      From s m = IsGood m × (joined_over (slice_index s d) (map meant_of (p ∷ rest)) s m ≡ Some x)

      abbrev To : List ℕ → Memory → Type 0
      To s m = IsGood m × (joined_over (slice_index s d) (map meant_of rest) s m ≡ Some x)

      -- what stands in the slot, and what comes to x with the share w over it
      abbrev F : ℕ × ℕ → List ℕ → Memory → Type 0
      F wv s m = (IsGood m × (slice_index s d ≡ wv.1)) × (joined_over (put_of wv.1 p.a p.l (take_of wv.0 p.o p.l)) (map meant_of rest) s m ≡ Some x)

      stays : (n : ℕ) (wv : ℕ × ℕ) → a.slots ≤ n → (s s' : List ℕ) (m : Memory) → Keeps n s s' → F wv s m → F wv s' m
      stays n wv up s s' m kept f = (
        (f.0.0, kept.same d (omega (arith, lt, up)) ∙ f.0.1),
        over-kept k s s' m (keeps_fewer n k s s' (omega (arith, le, lt, up)) kept) rest fits_rest (put_of wv.1 p.a p.l (take_of wv.0 p.o p.l)) ∙ f.1,
      )

      pick : (s : List ℕ) (m : Memory) → From s m → (wv : ℕ × ℕ) × (F wv s m × (IsGood m × (mean p.read s m ≡ Some wv.0)))
      pick s m pre =
          let v = slice_index s d in
          let e = sym (ap (λ (q : Meant). where_some (q.reading s m) (λ w. joined_over (put_of v q.a q.l (take_of w q.o q.l)) (map meant_of rest) s m)) (meant-is p)) ∙ pre.1 in
          let h = some_then (mean p.read s m) (λ w. joined_over (put_of v p.a p.l (take_of w p.o p.l)) (map meant_of rest) s m) x e in
          ((h.0, v), (((pre.0, refl), h.2), (pre.0, h.1)))

      share_runs : Straight plan d a c2 From To
      share_runs =
          straight_some d a c2 (ℕ × ℕ) (λ wv s m. F wv s m × (IsGood m × (mean p.read s m ≡ Some wv.0))) From To put_adds (omega (arith, lt)) pick
          (λ wv.
          let w = wv.0 in
          let part = take_of w p.o p.l in
          let Mid1 : List ℕ → Memory → Type 0 = λ s m. F wv s m × (slice_index s xs ≡ w) in
          let Mid2 : List ℕ → Memory → Type 0 = λ s m. F wv s m × (slice_index s b.slots ≡ part) in
          let up = made.adds.more in
          let first : Straight plan d a b (λ s m. F wv s m × (IsGood m × (mean p.read s m ≡ Some w))) Mid1 =
          straight_fewer a.slots d a b (λ s m. F wv s m × (IsGood m × (mean p.read s m ≡ Some w))) Mid1 (omega (arith, lt))
          (straight_frame plan a.slots a b (F wv) (λ s m. IsGood m × (mean p.read s m ≡ Some w)) (λ s m. slice_index s xs ≡ w) (stays a.slots wv (omega arith)) (made.runs w)) in
          let second : Straight plan d b c1 Mid1 Mid2 =
          straight_fewer b.slots d b c1 Mid1 Mid2 (omega (arith, lt, up))
          (straight_weaken plan b.slots b c1 (λ s m. F wv s m × (take_of (slice_index s xs) p.o p.l ≡ part)) Mid1 Mid2 Mid2 (λ s m h. (h.0, ap (λ y. take_of y p.o p.l) h.1)) (λ s m h. h)
          (straight_frame plan b.slots b c1 (F wv) (λ s m. take_of (slice_index s xs) p.o p.l ≡ part) (λ s m. slice_index s b.slots ≡ part) (stays b.slots wv up)
          (straight_take plan b.slots b (omega arith) (λ y m. y ≡ part) xs p.o p.l made.given ranges.0))) in
          let third : Straight plan d c1 c2 Mid2 To =
          straight_write plan d c1 (Put d b.slots p.a p.l) d Mid2 To (omega (arith, lt, up)) (omega arith)
          (record { bounded = ranges.1; slots_fit = (omega (arith, lt, up), omega arith); targets = tt; calls = tt })
          (λ next callee pc s w1 long (((good, holds), comes), read).
          let word = put_of (slice_index s d) p.a p.l (slice_index s b.slots % 2 ^ p.l) in
          let s' = slice_set s d word in
          let same : slice_index s b.slots % 2 ^ p.l ≡ part = ap (λ y. y % 2 ^ p.l) read ∙ mod-eq_of_lt (take_fits w p.o p.l) in
          let is : word ≡ put_of wv.1 p.a p.l part = ap (λ y. put_of y p.a p.l (slice_index s b.slots % 2 ^ p.l)) holds ∙ ap (λ y. put_of wv.1 p.a p.l y) same in
          let now : slice_index s' d ≡ put_of wv.1 p.a p.l part = set_same s d word (omega (arith, long, lt, up)) ∙ is in
          let ends : joined_over (slice_index s' d) (map meant_of rest) s' w1.memory ≡ Some x =
          ap (λ y. joined_over y (map meant_of rest) s' w1.memory) now ∙ over-kept k s s' w1.memory (Keeps-set k s d word le) rest fits_rest (put_of wv.1 p.a p.l part) ∙ comes in
          (word, refl, (good, ends))) in
          straight_seq plan d a b c2 (λ s m. F wv s m × (IsGood m × (mean p.read s m ≡ Some w))) Mid1 To first (straight_seq plan d b c1 c2 Mid1 Mid2 To second third))

    pub put_share : PutsOne plan p k d a c2
    put_share = record { adds = put_adds; runs = share_runs }

  fits_drop : (k : ℕ) (i : ℕ) (ps : List Share) → list_all (λ b. b) (map (fits_share k) ps) ≡ true → list_all (λ b. b) (map (fits_share k) (drop i ps)) ≡ true
  fits_drop k zero ps h = h
  fits_drop k (suc i) [] h = h
  fits_drop k (suc i) (p ∷ ps) h = fits_drop k i ps (and_parts (fits_share k p) _ h).1

  -- no share yet
  pub puts_none : (shares : List Share) (d : ℕ) (a : Sheet) → d < a.slots → PutsSome plan shares 0 d a a
  puts_none shares d a lt = record {
    adds = Adds-refl plan a;
    runs = λ x.
        let F : List ℕ → Memory → Type 0 = λ s m. IsGood m × (joined_over (slice_index s d) (map meant_of shares) s m ≡ Some x) in
        piece_none plan d a F F (omega (arith, lt)) (λ s m h. h);
  }

  -- one share more
  pub puts_more : (shares : List Share) (i : ℕ) (p : Share) (a b c : Sheet) (d k : ℕ) → drop i shares ≡ p ∷ drop (i + 1) shares → k ≤ d → d < a.slots → list_all (λ b. b) (map (fits_share k) shares) ≡ true
      → PutsSome plan shares i d a b → PutsShare p d b c → PutsSome plan shares (i + 1) d a c
  puts_more shares i p a b c d k item le lt fit first second =
      let here = and_parts (fits_share k p) _ (sym (ap (λ l. list_all (λ b. b) (map (fits_share k) l)) item) ∙ fits_drop k i shares fit) in
      let one = second plan k le (omega (arith, lt, first.adds.more)) here.0 in
      record {
        adds = Adds-trans plan a b c first.adds one.adds;
        runs = λ x.
            let Pre : List ℕ → Memory → Type 0 = λ s m. IsGood m × (joined_over (slice_index s d) (map meant_of shares) s m ≡ Some x) in
            let Mid : List ℕ → Memory → Type 0 = λ s m. IsGood m × (joined_over (slice_index s d) (map meant_of (drop i shares)) s m ≡ Some x) in
            let Post : List ℕ → Memory → Type 0 = λ s m. IsGood m × (joined_over (slice_index s d) (map meant_of (drop (i + 1) shares)) s m ≡ Some x) in
            let r = straight_weaken plan d b c (λ s m. IsGood m × (joined_over (slice_index s d) (map meant_of (p ∷ drop (i + 1) shares)) s m ≡ Some x)) Mid Post Post
            (λ s m h. (h.0, sym (ap (λ l. joined_over (slice_index s d) (map meant_of l) s m) item) ∙ h.1)) (λ s m h. h) (one.runs (drop (i + 1) shares) here.1 x) in
            straight_seq plan d a b c Pre Mid Post (first.runs x) r;
      }

  -- all shares
  pub puts_all : (shares : List Share) (i d : ℕ) (a b : Sheet) → drop i shares ≡ [] → PutsSome plan shares i d a b → PutsAll plan shares d a b
  puts_all shares i d a b none j = record {
    adds = j.adds;
    runs = λ x.
        let F : List ℕ → Memory → Type 0 = λ s m. IsGood m × (joined_over (slice_index s d) (map meant_of shares) s m ≡ Some x) in
        straight_weaken plan d a b F F (λ s m. IsGood m × (joined_over (slice_index s d) (map meant_of (drop i shares)) s m ≡ Some x)) (λ s m. slice_index s d ≡ x) (λ s m h. h)
        (λ s m h. same_Some (slice_index s d) x (sym (ap (λ l. joined_over (slice_index s d) (map meant_of l) s m) none) ∙ h.1)) (j.runs x);
  }

  -- what shares come to stands in the slot d but for the last ones, which are still to be put there
  pub record Begins (shares rest : List Share) (a b : Sheet) (d : ℕ) : Type 0 where
    pub adds : Adds plan a b
    pub fresh : a.slots ≤ d
    pub given : d < b.slots
    pub runs : (x : ℕ) → Straight plan a.slots a b (λ s m. IsGood m × (mean (Joined shares) s m ≡ Some x)) (λ s m. IsGood m × (joined_over (slice_index s d) (map meant_of rest) s m ≡ Some x))

  -- a zero
  pub begins_zero : (shares : List Share) (a : Sheet) (k : ℕ) → k ≤ a.slots → fits k (Joined shares) ≡ true → Begins shares shares a (with_more (with_slot a) (Const a.slots 0)) a.slots
  begins_zero shares a k le fit = record {
    adds = Adds-one plan a (Const a.slots 0) (0, omega arith, refl) (record { bounded = omega arith; slots_fit = omega arith; targets = tt; calls = tt });
    fresh = omega arith;
    given = omega arith;
    runs = λ x.
        let b = with_more (with_slot a) (Const a.slots 0) in
        let F : List ℕ → Memory → Type 0 = λ s m. IsGood m × (joined_over 0 (map meant_of shares) s m ≡ Some x) in
        straight_weaken plan a.slots a b (λ s m. F s m × (0 ≡ 0)) (λ s m. IsGood m × (mean (Joined shares) s m ≡ Some x)) (λ s m. F s m × (slice_index s a.slots ≡ 0))
        (λ s m. IsGood m × (joined_over (slice_index s a.slots) (map meant_of shares) s m ≡ Some x))
        (λ s m pre. ((pre.0, sym (mean-Joined shares s m) ∙ pre.1), refl)) (λ s m h. (h.0.0, ap (λ y. joined_over y (map meant_of shares) s m) h.1 ∙ h.0.1))
        (straight_frame plan a.slots a b F (λ s m. 0 ≡ 0) (λ s m. slice_index s a.slots ≡ 0)
        (λ s s' m kept h. (h.0, over-kept k s s' m (keeps_fewer a.slots k s s' le kept) shares (sym (fits-Joined k shares) ∙ fit) 0 ∙ h.1))
        (straight_const plan a.slots a (omega arith) (λ y m. y ≡ 0) 0 (omega arith)));
  }

  put_lowest : (a l x : ℕ) → a ≡ 0 → x ≡ put_of 0 a l x
  put_lowest a l x e =
      let z : 0 / 2 ^ (0 + l) ≡ 0 = zero_over (2 ^ (0 + l)) in
      let n : x ≡ (0 * 2 ^ l + x) * 1 + 0 = omega arith in
      n ∙ ap (λ i. (i * 2 ^ l + x) * 2 ^ 0 + 0 % 2 ^ 0) (sym z) ∙ ap (λ i. put_of 0 i l x) (sym e)
    where
      zero_over : (n : ℕ) → 0 / n ≡ 0
      zero_over n = grind (arith, common_steps)

  -- a first share at bit 0, taken
  pub begins_taken : (p : Share) (rest : List Share) (a b : Sheet) (d k : ℕ) → k ≤ a.slots → fits k (Joined (p ∷ rest)) ≡ true → p.a ≡ 0 → a.slots ≤ d → MakesReadIn plan (Bits p.read p.o p.l) a b d → Begins (p ∷ rest) rest a b d
  begins_taken p rest a b d k le fit low fresh made =
      let fit_rest = (and_parts (fits_share k p) (list_all (λ b. b) (map (fits_share k) rest)) (sym (fits-Joined k (p ∷ rest)) ∙ fit)).1 in
      record {
        adds = made.adds;
        fresh = fresh;
        given = made.given;
        runs = λ x.
            let Pre : List ℕ → Memory → Type 0 = λ s m. IsGood m × (mean (Joined (p ∷ rest)) s m ≡ Some x) in
            let Post : List ℕ → Memory → Type 0 = λ s m. IsGood m × (joined_over (slice_index s d) (map meant_of rest) s m ≡ Some x) in
            let F : ℕ → List ℕ → Memory → Type 0 = λ v s m. IsGood m × (joined_over v (map meant_of rest) s m ≡ Some x) in
            let Inner : ℕ → List ℕ → Memory → Type 0 = λ v s m. IsGood m × (mean (Bits p.read p.o p.l) s m ≡ Some v) in
            straight_some a.slots a b ℕ (λ v s m. F v s m × Inner v s m) Pre Post made.adds (omega arith)
            (λ s m pre.
            let e = sym (ap (λ (q : Meant). where_some (q.reading s m) (λ w. joined_over (put_of 0 q.a q.l (take_of w q.o q.l)) (map meant_of rest) s m)) (meant-is p)) ∙ (sym (mean-Joined (p ∷ rest) s m) ∙ pre.1) in
            let h = some_then (mean p.read s m) (λ w. joined_over (put_of 0 p.a p.l (take_of w p.o p.l)) (map meant_of rest) s m) x e in
            let v = take_of h.0 p.o p.l in
            (v, ((pre.0, ap (λ y. joined_over y (map meant_of rest) s m) (put_lowest p.a p.l v low) ∙ h.2), (pre.0, mean-Bits p.read p.o p.l s m ∙ ap (λ q. where_some q (λ w. Some (take_of w p.o p.l))) h.1))))
            (λ v. straight_weaken plan a.slots a b (λ s m. F v s m × Inner v s m) (λ s m. F v s m × Inner v s m) (λ s m. F v s m × (slice_index s d ≡ v)) Post
            (λ s m h. h) (λ s m h. (h.0.0, ap (λ y. joined_over y (map meant_of rest) s m) h.1 ∙ h.0.1))
            (straight_frame plan a.slots a b (F v) (Inner v) (λ s m. slice_index s d ≡ v)
            (λ s s' m kept f. (f.0, over-kept k s s' m (keeps_fewer a.slots k s s' le kept) rest fit_rest v ∙ f.1)) (made.runs v)));
      }

  -- and then the rest
  pub joined_all : (shares rest : List Share) (a b c : Sheet) (d k : ℕ) → k ≤ a.slots → list_all (λ b. b) (map (fits_share k) rest) ≡ true → Begins shares rest a b d → PutsShares rest d b c → MakesReadIn plan (Joined shares) a c d
  joined_all shares rest a b c d k le fit begun puts =
      let all = puts plan k (omega (arith, le, begun.fresh)) begun.given fit in
      record {
        adds = Adds-trans plan a b c begun.adds all.adds;
        given = omega (arith, begun.given, all.adds.more);
        runs = λ x.
            let Pre : List ℕ → Memory → Type 0 = λ s m. IsGood m × (mean (Joined shares) s m ≡ Some x) in
            let Mid : List ℕ → Memory → Type 0 = λ s m. IsGood m × (joined_over (slice_index s d) (map meant_of rest) s m ≡ Some x) in
            let Post : List ℕ → Memory → Type 0 = λ s m. slice_index s d ≡ x in
            straight_seq plan a.slots a b c Pre Mid Post (begun.runs x) (straight_fewer d a.slots b c Mid Post begun.fresh (all.runs x));
      }

  -- the bits of a share that fits are a read that fits
  pub share_bits : (p : Share) (rest : List Share) (k : ℕ) → fits k (Joined (p ∷ rest)) ≡ true → (fits k p.read ≡ true) × (fits k (Bits p.read p.o p.l) ≡ true) × (list_all (λ b. b) (map (fits_share k) rest) ≡ true)
  share_bits p rest k fit =
      let f = and_parts (fits_share k p) (list_all (λ b. b) (map (fits_share k) rest)) (sym (fits-Joined k (p ∷ rest)) ∙ fit) in
      let g = and_parts (fits k p.read) _ (sym (fits-Share k p) ∙ f.0) in
      let r = and_parts (is_range p.o p.l) (is_range p.a p.l) g.1 in
      (g.0, fits-Bits k p.read p.o p.l ∙ ap (λ t. t && is_range p.o p.l) g.0 ∙ r.0, f.1)
