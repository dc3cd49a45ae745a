-- What facts tell, and which hold behind an instruction.
use Rattle.std.proofs.Common.{Bool, true, false, ◌≡◌, ◌≢◌, ℕ, zero, suc, ◌+◌, ◌*◌, ◌/◌, ◌%◌, ◌^◌, ◌<◌, ◌≤◌, nat_eq, nat_lt, cond, inl, inr, List, [], ◌∷◌, length, Option, Some, refl, sym, subst, ap, ◌∙◌, arith, get_or, get_or-set_other, get_or-set_same}
use Rattle.std.proofs.lemmas.Option.{slice_get_within, same_Some}
use Rattle.std.proofs.Math.Pow.{pow_mono}
use Rattle.std.proofs.Math.Nat.{mod-lt, div-eq_of_lt, div-one}
use Rattle.std.proofs.lemmas.Nat.{pow_pos}
use Rattle.std.specs.Prelude.{IsTrue, ◌↔◌, slice_get, slice_index, slice_set, Contains}
use Rattle.rb_bits.specs.Words.{take_of, put_of}
use Rattle.rb_bits.proofs.WordLemmas.{take_fits}
use Rattle.rb_bits.proofs.RangeLemmas.{take_take, take_whole}
use Rattle.rb_bytes.specs.Memory.{Memory, load_of}
use Rattle.rb_target.specs.Meaning.{alu_of, put_slots}
use Rattle.rb_target.specs.Validity.{SlotsFit}
use Rattle.rb_target.specs.declared.instr.AluOp.{AluOp}
use Rattle.rb_target.specs.declared.instr.AluOp.TheVariants.{Add, Sub, Mul, And, Or, Xor, Eq, Lt}
use Rattle.rb_target.specs.declared.instr.Instr.{Instr}
use Rattle.rb_target.specs.declared.instr.Instr.TheVariants.{Const, Copy, Alu, Take, Put, Load, Store, Place, Jump, Switch, Call, Return}
use Rattle.rb_trim.specs.declared.fact.Content.{Content}
use Rattle.rb_trim.specs.declared.fact.Content.TheVariants.{Number, Same, Part, Computed, Loaded}
use Rattle.rb_trim.specs.declared.fact.Fact.{Fact}
use Rattle.rb_trim.specs.inner.Facts.{IsContent, IsSo, FactSays, Turns, Follows}
use Rattle.rb_trim.specs.inner.Following.{AreSame, IsAsMuch, IsHeld, IsBelow, IsNarrow, IsLaid, FactIsMade, IsTold, Sets, IsToldBy, WritesTo, Changes, KeepsContent, FollowsOne, FollowsAt, HoldsBehind, IsLoaded, made_fact}

get_at : (xs : List Fact) (k : ℕ) (x : Fact) → k < length xs → get_or xs k x ≡ x → slice_get xs k ≡ Some x
get_at [] k x lt e = absurd (omega (arith, lt))
get_at (y ∷ xs) zero x lt e = ap Some e
get_at (y ∷ xs) (suc k) x lt e = get_at xs k x (omega (arith, lt)) e

or_at : (xs : List Fact) (k : ℕ) (x : Fact) → slice_get xs k ≡ Some x → get_or xs k x ≡ x
or_at [] k x e = cc
or_at (y ∷ xs) zero x e = same_Some y x e
or_at (y ∷ xs) (suc k) x e = or_at xs k x e

-- The same words

pub same_known : (facts : List Fact) (k slot from : ℕ) (fact : Fact) → k < length facts → fact ≡ get_or facts k fact → fact ≡ record { slot = slot; content = Same from } → AreSame facts slot from
same_known facts k slot from fact lt is e s m hold =
    let there : IsSo s m fact = hold fact (k, lt, sym is) in
    let here : IsSo s m (record { slot = slot; content = Same from }) = subst (λ (f : Fact). IsSo s m f) e there in
    sym here

pub much_same : (facts : List Fact) (a b : ℕ) → AreSame facts a b → IsAsMuch facts (Same a) (Same b)
much_same facts a b e = record { by = λ s m x hold is. is ∙ sym (e s m hold) }

pub much_part : (facts : List Fact) (a b o l : ℕ) → AreSame facts a b → IsAsMuch facts (Part a o l) (Part b o l)
much_part facts a b o l e = record { by = λ s m x hold is. is ∙ ap (λ y. take_of y o l) (sym (e s m hold)) }

pub much_more : (facts : List Fact) (a b c : Content) → IsAsMuch facts a b → IsAsMuch facts b c → IsAsMuch facts a c
much_more facts a b c f g = record { by = λ s m x hold is. g.by s m x hold (f.by s m x hold is) }

-- what a slot is known to hold
pub held_known : (facts : List Fact) (k slot : ℕ) (fact : Fact) → k < length facts → fact ≡ get_or facts k fact → fact.slot ≡ slot → IsHeld facts slot fact.content
held_known facts k slot fact lt is at = record {
  by = λ s m hold. subst (λ n. IsContent s m fact.content (slice_index s n)) at (hold fact (k, lt, sym is));
}

-- a slot's word, told by what the slot holds
pub much_held : (facts : List Fact) (a : ℕ) (c : Content) → IsHeld facts a c → IsAsMuch facts (Same a) c
much_held facts a c held = record { by = λ s m x hold is. subst (λ y. IsContent s m c y) (sym is) (held.by s m hold) }

-- all bits that a slot has
pub much_whole : (facts : List Fact) (a l : ℕ) → IsNarrow facts a l → IsAsMuch facts (Part a 0 l) (Same a)
much_whole facts a l narrow = record { by = λ s m x hold is. is ∙ take_whole (slice_index s a) l (narrow s m hold) }

pub whole_from : (facts : List Fact) (slot a o l : ℕ) → o ≡ 0 → AreSame facts slot a → IsNarrow facts a l → IsAsMuch facts (Part slot o l) (Same a)
whole_from facts slot a o l none same narrow =
    subst (λ n. IsAsMuch facts (Part slot n l) (Same a)) (sym none)
    (much_more facts (Part slot 0 l) (Part a 0 l) (Same a) (much_part facts slot a 0 l same) (much_whole facts a l narrow))

pub part_from : (facts : List Fact) (slot a o l : ℕ) (c : Content) → AreSame facts slot a → IsAsMuch facts (Part a o l) c → IsAsMuch facts (Part slot o l) c
part_from facts slot a o l c same much = much_more facts (Part slot o l) (Part a o l) c (much_part facts slot a o l same) much

-- bits of a number
pub much_number : (facts : List Fact) (a o l n k : ℕ) → IsHeld facts a (Number n) → k ≡ take_of n o l → IsAsMuch facts (Part a o l) (Number k)
much_number facts a o l n k held e = record { by = λ s m x hold is. is ∙ ap (λ y. take_of y o l) (held.by s m hold) ∙ sym e }

-- bits of bits
pub much_inner : (facts : List Fact) (a from begin bits o l at : ℕ) → IsHeld facts a (Part from begin bits) → o + l ≤ bits → at ≡ begin + o → IsAsMuch facts (Part a o l) (Part from at l)
much_inner facts a from begin bits o l at held le e = record {
  by = λ s m x hold is.
      is ∙ ap (λ y. take_of y o l) (held.by s m hold) ∙ take_take (slice_index s from) begin bits o l le
      ∙ ap (λ n. take_of (slice_index s from) n l) (sym e);
}

-- How many bits a content has

pub below_number : (n l : ℕ) → n < 2 ^ l → IsBelow (Number n) l
below_number n l lt s m x is = subst (λ y. y < 2 ^ l) (sym is) lt

wider : (x a b : ℕ) → x < 2 ^ a → a ≤ b → x < 2 ^ b
wider x a b lt le = let more : 2 ^ a ≤ 2 ^ b = pow_mono le in omega (arith, lt, more)

pub below_part : (a o bits l : ℕ) → bits ≤ l → IsBelow (Part a o bits) l
below_part a o bits l le s m x is = subst (λ y. y < 2 ^ l) (sym is) (wider (take_of (slice_index s a) o bits) bits l (take_fits (slice_index s a) o bits) le)

below_mod : (y n : ℕ) → y % 2 ^ n < 2 ^ n
below_mod y n = mod-lt y (pow_pos n)

bit_fits : (b : Bool) (n : ℕ) → 1 ≤ n → cond b 1 0 < 2 ^ n
bit_fits b n le =
    let two : 2 ^ 1 ≤ 2 ^ n = pow_mono le in
    let P : Bool → Type 0 = λ c. cond c 1 0 < 2 ^ n in
    elim b as P [ true ↦ omega (arith, two) | false ↦ omega (arith, two) ]

alu_fits : (op : AluOp) (n x y : ℕ) → 1 ≤ n → alu_of op n x y < 2 ^ n
alu_fits Add n x y le = below_mod _ n
alu_fits Sub n x y le = below_mod _ n
alu_fits Mul n x y le = below_mod _ n
alu_fits And n x y le = below_mod _ n
alu_fits Or n x y le = below_mod _ n
alu_fits Xor n x y le = below_mod _ n
alu_fits Eq n x y le = bit_fits (nat_eq x y) n le
alu_fits Lt n x y le = bit_fits (nat_lt x y) n le

pub below_computed : (op : AluOp) (n a b l : ℕ) → 1 ≤ n → n ≤ l → IsBelow (Computed op n a b) l
below_computed op n a b l one le s m x is =
    subst (λ y. y < 2 ^ l) (sym is)
    (wider (alu_of op n (slice_index s a) (slice_index s b)) n l (alu_fits op n (slice_index s a) (slice_index s b) one) le)

pub narrow_held : (facts : List Fact) (slot : ℕ) (c : Content) (l : ℕ) → IsHeld facts slot c → IsBelow c l → IsNarrow facts slot l
narrow_held facts slot c l held below s m hold = below s m (slice_index s slot) (held.by s m hold)

-- bits put in the place of all that a slot has
put_over : (x l p : ℕ) → x < 2 ^ l → put_of x 0 l p ≡ p
put_over x l p lt =
    let z : 0 + l ≡ l = omega arith in
    let none : x / 2 ^ (0 + l) ≡ 0 = ap (λ k. x / 2 ^ k) z ∙ div-eq_of_lt lt in
    let low : x % 1 < 1 = mod-lt x (omega arith) in
    let e : put_of x 0 l p ≡ (0 * 2 ^ l + p) * 2 ^ 0 + x % 2 ^ 0 = ap (λ k. (k * 2 ^ l + p) * 2 ^ 0 + x % 2 ^ 0) none in
    let f : (0 * 2 ^ l + p) * 2 ^ 0 + x % 2 ^ 0 ≡ p = omega (arith, low) in
    e ∙ f

pub laid_over : (facts : List Fact) (slot old a l : ℕ) (c : Content) → AreSame facts slot old → IsNarrow facts old l → IsAsMuch facts (Part a 0 l) c → IsLaid facts slot a 0 l c
laid_over facts slot old a l c same narrow much = record {
  by = λ s m hold.
      let below : slice_index s slot < 2 ^ l = subst (λ y. y < 2 ^ l) (same s m hold) (narrow s m hold) in
      let part : slice_index s a / 2 ^ 0 % 2 ^ l ≡ slice_index s a % 2 ^ l = ap (λ n. n % 2 ^ l) (div-one (slice_index s a)) in
      let e : put_of (slice_index s slot) 0 l (slice_index s a % 2 ^ l) ≡ take_of (slice_index s a) 0 l = put_over (slice_index s slot) l (slice_index s a % 2 ^ l) below ∙ sym part in
      much.by s m (put_of (slice_index s slot) 0 l (slice_index s a % 2 ^ l)) hold e;
}

pub laid_from : (facts : List Fact) (slot old a o l : ℕ) (c : Content) → o ≡ 0 → AreSame facts slot old → IsNarrow facts old l → IsAsMuch facts (Part a 0 l) c → IsLaid facts slot a o l c
laid_from facts slot old a o l c none same narrow much = subst (λ n. IsLaid facts slot a n l c) (sym none) (laid_over facts slot old a l c same narrow much)

pub much_computed : (facts : List Fact) (op : AluOp) (n a b a' b' : ℕ) → AreSame facts a a' → AreSame facts b b' → IsAsMuch facts (Computed op n a b) (Computed op n a' b')
much_computed facts op n a b a' b' e f = record {
  by = λ s m x hold is.
      is ∙ ap (λ y. alu_of op n y (slice_index s b)) (sym (e s m hold)) ∙ ap (λ y. alu_of op n (slice_index s a') y) (sym (f s m hold));
}

pub much_loaded : (facts : List Fact) (a b offset width : ℕ) → AreSame facts a b → IsAsMuch facts (Loaded a offset width) (Loaded b offset width)
much_loaded facts a b offset width e = record { by = λ s m x hold is. ap (λ y. load_of m y offset width) (e s m hold) ∙ is }

pub loaded_known : (facts : List Fact) (a b offset width k : ℕ) (fact : Fact) → AreSame facts a b → slice_get facts k ≡ Some fact → fact.content ≡ Loaded b offset width → IsLoaded facts a offset width
loaded_known facts a b offset width k fact same is e = record {
  by = λ s m hold.
      let lt : k < length facts = slice_get_within facts k fact is in
      let there : IsSo s m fact = hold fact (k, lt, or_at facts k fact is) in
      let here : IsContent s m (Loaded b offset width) (slice_index s fact.slot) = subst (λ (c : Content). IsContent s m c (slice_index s fact.slot)) e there in
      (slice_index s fact.slot, ap (λ y. load_of m y offset width) (sym (same s m hold)) ∙ here);
}

-- a test that fails
pub untold : (b : Bool) (P : Type 0) → (IsTrue b ↔ P) → b ≡ false → ¬ P
untold true P iff e p = cc
untold false P iff e p = refuted (iff.1 p)
  where
    refuted : IsTrue false → ⊥
    refuted t = cc

-- What an instruction leaves as it is

put_other : (ds ws s : List ℕ) (k : ℕ) → ¬ Contains ds k → slice_index (put_slots s ds ws) k ≡ slice_index s k
put_other [] ws s k unlike = refl
put_other (d ∷ ds) [] s k unlike = refl
put_other (d ∷ ds) (w ∷ ws) s k unlike =
    let ne : k ≢ d = λ e. unlike (0, omega arith, sym e) in
    put_other ds ws (slice_set s d w) k (λ c. unlike (suc c.0, omega (arith, c.1), c.2)) ∙ get_or-set_other s d k w 0 ne

set_spares : (s s' : List ℕ) (d x k : ℕ) → s' ≡ slice_set s d x → (d ≡ k → ⊥) → slice_index s' k ≡ slice_index s k
set_spares s s' d x k e unlike = ap (λ y. slice_index y k) e ∙ get_or-set_other s d k x 0 (λ f. unlike (sym f))

pub spares : (i : Instr) (k : ℕ) (s s' : List ℕ) (m m' : Memory) → ¬ WritesTo i k → Turns i s m s' m' → slice_index s' k ≡ slice_index s k
spares (Const d c) k s s' m m' unlike t = set_spares s s' d _ k t.0 unlike
spares (Copy d a) k s s' m m' unlike t = set_spares s s' d _ k t.0 unlike
spares (Alu op n d a b) k s s' m m' unlike t = set_spares s s' d _ k t.0 unlike
spares (Take d a o l) k s s' m m' unlike t = set_spares s s' d _ k t.0 unlike
spares (Put d a o l) k s s' m m' unlike t = set_spares s s' d _ k t.0 unlike
spares (Load d a offset width) k s s' m m' unlike t = set_spares s s' d _ k t.2 unlike
spares (Store a offset width v) k s s' m m' unlike t = ap (λ y. slice_index y k) t
spares (Place d size align) k s s' m m' unlike t = set_spares s s' d _ k t.1 unlike
spares (Jump u) k s s' m m' unlike t = ap (λ y. slice_index y k) t.0
spares (Switch a other arms) k s s' m m' unlike t = ap (λ y. slice_index y k) t.0
spares (Call f ds froms) k s s' m m' unlike t = ap (λ y. slice_index y k) t.1 ∙ put_other ds t.0 s k unlike
spares (Return froms) k s s' m m' unlike t = absurd t

same_memory : (i : Instr) (s s' : List ℕ) (m m' : Memory) → ¬ Changes i → Turns i s m s' m' → m' ≡ m
same_memory (Const d c) s s' m m' unlike t = t.1
same_memory (Copy d a) s s' m m' unlike t = t.1
same_memory (Alu op n d a b) s s' m m' unlike t = t.1
same_memory (Take d a o l) s s' m m' unlike t = t.1
same_memory (Put d a o l) s s' m m' unlike t = t.1
same_memory (Load d a offset width) s s' m m' unlike t = t.3
same_memory (Store a offset width v) s s' m m' unlike t = absurd (unlike tt)
same_memory (Place d size align) s s' m m' unlike t = absurd (unlike tt)
same_memory (Jump u) s s' m m' unlike t = t.1
same_memory (Switch a other arms) s s' m m' unlike t = t.1
same_memory (Call f ds froms) s s' m m' unlike t = absurd (unlike tt)
same_memory (Return froms) s s' m m' unlike t = absurd t

kept_content : (i : Instr) (c : Content) (x : ℕ) (s s' : List ℕ) (m m' : Memory) → KeepsContent i c → Turns i s m s' m' → IsContent s m c x → IsContent s' m' c x
kept_content i (Number n) x s s' m m' keeps t is = is
kept_content i (Same a) x s s' m m' keeps t is = is ∙ sym (spares i a s s' m m' keeps t)
kept_content i (Part a o l) x s s' m m' keeps t is = is ∙ ap (λ y. take_of y o l) (sym (spares i a s s' m m' keeps t))
kept_content i (Computed op n a b) x s s' m m' keeps t is =
    is ∙ ap (λ y. alu_of op n y (slice_index s b)) (sym (spares i a s s' m m' keeps.0 t)) ∙ ap (λ y. alu_of op n (slice_index s' a) y) (sym (spares i b s s' m m' keeps.1 t))
kept_content i (Loaded a offset width) x s s' m m' keeps t is =
    ap (λ y. load_of y (slice_index s' a) offset width) (same_memory i s s' m m' keeps.1 t) ∙ ap (λ y. load_of m y offset width) (spares i a s s' m m' keeps.0 t) ∙ is

pub stays_so : (facts : List Fact) (i : Instr) (fact : Fact) → Contains facts fact → ¬ WritesTo i fact.slot → KeepsContent i fact.content → FollowsOne facts i fact
stays_so facts i fact known unlike keeps = record {
  by = λ slots s s' m m' long fit hold t.
      let before : IsSo s m fact = hold fact known in
      let at = spares i fact.slot s s' m m' unlike t in
      kept_content i fact.content (slice_index s' fact.slot) s s' m m' keeps t
      (subst (λ y. IsContent s m fact.content y) (sym at) before);
}

-- What an instruction makes

-- the content does not change with a slot that does not tell it
free_content : (c : Content) (d x y : ℕ) (s : List ℕ) (m : Memory) → ¬ IsToldBy c d → IsContent s m c x → IsContent (slice_set s d y) m c x
free_content (Number n) d x y s m unlike is = is
free_content (Same a) d x y s m unlike is = is ∙ sym (set_spares s (slice_set s d y) d y a refl (λ e. unlike (sym e)))
free_content (Part a o l) d x y s m unlike is = is ∙ ap (λ z. take_of z o l) (sym (set_spares s (slice_set s d y) d y a refl (λ e. unlike (sym e))))
free_content (Computed op n a b) d x y s m unlike is =
    is ∙ ap (λ z. alu_of op n z (slice_index s b)) (sym (set_spares s (slice_set s d y) d y a refl (λ e. unlike (inl (sym e)))))
    ∙ ap (λ z. alu_of op n (slice_index (slice_set s d y) a) z) (sym (set_spares s (slice_set s d y) d y b refl (λ e. unlike (inr (sym e)))))
free_content (Loaded a offset width) d x y s m unlike is =
    ap (λ z. load_of m z offset width) (set_spares s (slice_set s d y) d y a refl (λ e. unlike (sym e))) ∙ is

-- a content is one word
one_content : (c : Content) (x y : ℕ) (s : List ℕ) (m : Memory) → IsContent s m c x → IsContent s m c y → x ≡ y
one_content (Number n) x y s m a b = a ∙ sym b
one_content (Same k) x y s m a b = a ∙ sym b
one_content (Part k o l) x y s m a b = a ∙ sym b
one_content (Computed op n k j) x y s m a b = a ∙ sym b
one_content (Loaded k offset width) x y s m a b = let e = sym a ∙ b in cc

made_so : (i : Instr) (fact : Fact) (slots : ℕ) (s s' : List ℕ) (m m' : Memory) → made_fact i ≡ Some fact → SlotsFit slots i → Turns i s m s' m' → FactIsMade fact slots s s' m m'
made_so (Const d c) fact slots s s' m m' e fit t = subst (λ (f : Fact). FactIsMade f slots s s' m m') (same_Some _ fact e) (record { word = c; is = refl; slot = t.0; memory = t.1; within = fit })
made_so (Copy d a) fact slots s s' m m' e fit t = subst (λ (f : Fact). FactIsMade f slots s s' m m') (same_Some _ fact e) (record { word = slice_index s a; is = refl; slot = t.0; memory = t.1; within = fit.0 })
made_so (Alu op n d a b) fact slots s s' m m' e fit t = subst (λ (f : Fact). FactIsMade f slots s s' m m') (same_Some _ fact e) (record { word = alu_of op n (slice_index s a) (slice_index s b); is = refl; slot = t.0; memory = t.1; within = fit.0 })
made_so (Take d a o l) fact slots s s' m m' e fit t = subst (λ (f : Fact). FactIsMade f slots s s' m m') (same_Some _ fact e) (record { word = take_of (slice_index s a) o l; is = refl; slot = t.0; memory = t.1; within = fit.0 })
made_so (Put d a o l) fact slots s s' m m' e fit t = cc
made_so (Load d a offset width) fact slots s s' m m' e fit t = subst (λ (f : Fact). FactIsMade f slots s s' m m') (same_Some _ fact e) (record { word = t.0; is = t.1; slot = t.2; memory = t.3; within = fit.0 })
made_so (Store a offset width v) fact slots s s' m m' e fit t = cc
made_so (Place d size align) fact slots s s' m m' e fit t = cc
made_so (Jump u) fact slots s s' m m' e fit t = cc
made_so (Switch a other arms) fact slots s s' m m' e fit t = cc
made_so (Call f ds froms) fact slots s s' m m' e fit t = cc
made_so (Return froms) fact slots s s' m m' e fit t = cc

made_sets : (i : Instr) (fact : Fact) → made_fact i ≡ Some fact → Sets i fact.slot
made_sets (Const d c) fact e = subst (λ (f : Fact). Sets (Const d c) f.slot) (same_Some _ fact e) refl
made_sets (Copy d a) fact e = subst (λ (f : Fact). Sets (Copy d a) f.slot) (same_Some _ fact e) refl
made_sets (Alu op n d a b) fact e = subst (λ (f : Fact). Sets (Alu op n d a b) f.slot) (same_Some _ fact e) refl
made_sets (Take d a o l) fact e = subst (λ (f : Fact). Sets (Take d a o l) f.slot) (same_Some _ fact e) refl
made_sets (Put d a o l) fact e = cc
made_sets (Load d a offset width) fact e = subst (λ (f : Fact). Sets (Load d a offset width) f.slot) (same_Some _ fact e) refl
made_sets (Store a offset width v) fact e = cc
made_sets (Place d size align) fact e = cc
made_sets (Jump u) fact e = cc
made_sets (Switch a other arms) fact e = cc
made_sets (Call f ds froms) fact e = cc
made_sets (Return froms) fact e = cc

pub told_made : (facts : List Fact) (i : Instr) (made : Fact) (content : Content) → made_fact i ≡ Some made → IsAsMuch facts made.content content → IsTold facts i (record { slot = made.slot; content = content })
told_made facts i made content is much = record {
  sets = made_sets i made is;
  by = λ slots s s' m m' fit hold t.
      let k = made_so i made slots s s' m m' is fit t in
      record { word = k.word; is = much.by s m k.word hold k.is; slot = k.slot; memory = k.memory; within = k.within };
}

pub told_put : (facts : List Fact) (d a o l : ℕ) (content : Content) → IsLaid facts d a o l content → IsTold facts (Put d a o l) (record { slot = d; content = content })
told_put facts d a o l content laid = record {
  sets = refl;
  by = λ slots s s' m m' fit hold t. record {
    word = put_of (slice_index s d) o l (slice_index s a % 2 ^ l);
    is = laid.by s m hold;
    slot = t.0;
    memory = t.1;
    within = fit.0;
  };
}

pub told_more : (facts : List Fact) (i : Instr) (told : Fact) (content : Content) → IsTold facts i told → IsAsMuch facts told.content content → IsTold facts i (record { slot = told.slot; content = content })
told_more facts i told content is much = record {
  sets = is.sets;
  by = λ slots s s' m m' fit hold t.
      let k = is.by slots s s' m m' fit hold t in
      record { word = k.word; is = much.by s m k.word hold k.is; slot = k.slot; memory = k.memory; within = k.within };
}

module _ (facts : List Fact) (i : Instr) (told : Fact) (is_told : IsTold facts i told) where
  -- the slot holds what is made, told by slots that the instruction does not write
  pub made_itself : (fact : Fact) → fact.slot ≡ told.slot → fact.content ≡ told.content → ¬ IsToldBy told.content told.slot → FollowsOne facts i fact
  made_itself fact at same free = record {
    by = λ slots s s' m m' long fit hold t.
        let k = is_told.by slots s s' m m' fit hold t in
        let behind : IsContent (slice_set s told.slot k.word) m told.content k.word = free_content told.content told.slot k.word k.word s m free k.is in
        let within : told.slot < length s = omega (arith, k.within, long) in
        let word : slice_index s' fact.slot ≡ k.word = ap (λ n. slice_index s' n) at ∙ ap (λ y. slice_index y told.slot) k.slot ∙ get_or-set_same s told.slot k.word 0 within in
        subst (λ (c : Content). IsContent s' m' c (slice_index s' fact.slot)) (sym same)
        (subst (λ x. IsContent s' m' told.content x) (sym word)
        (subst (λ n. IsContent s' n told.content k.word) (sym k.memory)
        (subst (λ y. IsContent y m told.content k.word) (sym k.slot) behind)));
  }

  -- another slot holds the same
  pub made_again : (fact : Fact) (from : ℕ) → fact.slot ≡ told.slot → fact.content ≡ Same from → (from ≡ told.slot → ⊥) → Contains facts (record { slot = from; content = told.content }) → FollowsOne facts i fact
  made_again fact from at same apart known = record {
    by = λ slots s s' m m' long fit hold t.
        let k = is_told.by slots s s' m m' fit hold t in
        let held : IsContent s m told.content (slice_index s from) = hold (record { slot = from; content = told.content }) known in
        let one : k.word ≡ slice_index s from = one_content told.content k.word (slice_index s from) s m k.is held in
        let within : told.slot < length s = omega (arith, k.within, long) in
        let word : slice_index s' fact.slot ≡ k.word = ap (λ n. slice_index s' n) at ∙ ap (λ y. slice_index y told.slot) k.slot ∙ get_or-set_same s told.slot k.word 0 within in
        let stays : slice_index s' from ≡ slice_index s from = set_spares s s' told.slot k.word from k.slot (λ e. apart (sym e)) in
        subst (λ (c : Content). IsContent s' m' c (slice_index s' fact.slot)) (sym same) (word ∙ one ∙ sym stays);
  }

-- a fact that holds by each way holds by one
pub one_behind : (facts : List Fact) (told : Option Fact) (i : Instr) (fact : Fact) → FollowsOne facts i fact → HoldsBehind facts told i fact
one_behind facts told i fact one = record { by = λ slots s s' m m' long fit hold says t. one.by slots s s' m m' long fit hold t }

-- a fact that the way tells holds behind it
pub said_so : (facts : List Fact) (told : Option Fact) (i : Instr) (fact said : Fact) (from : ℕ) → told ≡ Some said → AreSame facts said.slot from → fact.slot ≡ from → fact.content ≡ said.content
    → ¬ WritesTo i fact.slot → KeepsContent i fact.content → HoldsBehind facts told i fact
said_so facts told i fact said from is same at content unlike keeps = record {
  by = λ slots s s' m m' long fit hold says t.
      let way : IsContent s m said.content (slice_index s said.slot) = subst (λ (o : Option Fact). FactSays o s m) is says in
      let word : slice_index s fact.slot ≡ slice_index s said.slot = ap (λ n. slice_index s n) at ∙ same s m hold in
      let before : IsSo s m fact = subst (λ (c : Content). IsContent s m c (slice_index s fact.slot)) (sym content) (subst (λ y. IsContent s m said.content y) (sym word) way) in
      let stays = spares i fact.slot s s' m m' unlike t in
      kept_content i fact.content (slice_index s' fact.slot) s s' m m' keeps t
      (subst (λ y. IsContent s m fact.content y) (sym stays) before);
}

-- each fact holds behind the instruction
pub follows_all : (facts : List Fact) (told : Option Fact) (i : Instr) (behind : List Fact) → ((k : ℕ) → k < length behind → FollowsAt facts told i behind k) → Follows facts told i behind
follows_all facts told i behind each = record {
  by = λ slots s s' m m' long fit hold says t fact known.
      ((each known.0 known.1).at fact (get_at behind known.0 fact known.1 known.2)).by slots s s' m m' long fit hold says t;
}
