-- Lines that are read in part, by the table of fields: each can be completed, and a whole one spells its instruction.
use Rattle.std.proofs.Common.{◌≡◌, ℕ, zero, suc, ◌-◌, ◌%◌, ◌<◌, ◌≤◌, ◌^◌, ◌⊎◌, inl, inr, List, [], ◌∷◌, ◌++◌, nat_le, Bool, true, false, ◌&&◌, Option, Some, None, All, map, refl, sym, ◌∙◌, ap, subst, arith, append_assoc, append-nil}
use Rattle.std.specs.List.{fold}
use Rattle.std.proofs.lemmas.List.Elements.{All-cons, All-nil}
use Rattle.std.proofs.lemmas.Grind.{common_steps}
use Rattle.rb_bytes.specs.Memory.{IsWidth, IsAlign}
use Rattle.rb_target.proofs.Texts.{pairs-push}
use Rattle.rb_target.proofs.FieldLemmas.{may_be, both-left, both-right}
use Rattle.rb_target.specs.Text.{key_of, line_words, numbers, pairs}
use Rattle.rb_target.specs.Validity.{IsBounded}
use Rattle.rb_target.specs.Spelled.{IsShort}
use Rattle.rb_target.proofs.SpelledForms.{AreShort, IsFit}
use Rattle.rb_target.specs.inner.Fields.{has, is_open, fields, next_field, behind_field, fields_after, may_end, first_line, after_word, value_of, arms_with_word, arms_in, lists_with_word, lists_in, instruction_of}
use Rattle.rb_target.specs.declared.instr.AluOp.{AluOp}
use Rattle.rb_target.specs.declared.instr.AluOp.TheVariants.{Add}
use Rattle.rb_target.specs.declared.instr.SwitchArm.{SwitchArm}
use Rattle.rb_target.specs.declared.instr.Instr.{Instr}
use Rattle.rb_target.specs.declared.instr.Instr.TheVariants.{Const, Copy, Alu, Take, Put, Load, Store, Place, Jump, Switch, Call, Return}
use Rattle.rb_target.specs.declared.word.LineWord.{LineWord}
use Rattle.rb_target.specs.declared.word.LineWord.TheVariants.{Number, Op, Dash, Of}
use Rattle.rb_target.specs.declared.word.Key.{Key}
use Rattle.rb_target.specs.declared.word.Key.TheVariants as key
use Rattle.rb_target.specs.declared.read.spot.Field.{Field}
use Rattle.rb_target.specs.declared.read.spot.Field.TheVariants.{Any, Upto, FromOne, Width, Align, Range, Operation, OrDash, Pairs, Target, OrOf, Slots, Nothing}
use Rattle.rb_target.specs.declared.read.spot.Line.{Line}
use Rattle.rb_target.specs.declared.read.line.Lists.{Lists}
use Rattle.rb_target.specs.declared.read.line.Arms.{Arms}

-- Words in fields --------------------------------------------------------------------------------

-- words stand in the fields to come, one after the other
abbrev pub fits : List Field → List LineWord → Bool
fits fs [] = true
fits [] (w ∷ ws) = false
fits (f ∷ fs) (w ∷ ws) = may_be f w && fits (behind_field f fs w) ws

-- words stand in the fields to come, and the line may end behind them
abbrev pub whole : List Field → List LineWord → Bool
whole fs [] = may_end fs
whole [] (w ∷ ws) = false
whole (f ∷ fs) (w ∷ ws) = may_be f w && whole (behind_field f fs w) ws

-- the fields to come behind some words
abbrev pub behind : List Field → List LineWord → List Field
behind fs [] = fs
behind fs (w ∷ ws) = behind (fields_after fs w) ws

-- two tests that hold hold together
both : (a b : Bool) → a ≡ true → b ≡ true → (a && b) ≡ true
both true b x y = y
both false b x y = x

-- one word more, in the next field
fits-push : (fs : List Field) (ws : List LineWord) (w : LineWord) → fits fs ws ≡ true → may_be (next_field (behind fs ws)) w ≡ true → fits fs (ws ++ w ∷ []) ≡ true
fits-push [] [] w a b = absurd (cc b)
fits-push (f ∷ fs) [] w a b = both (may_be f w) true b refl
fits-push [] (v ∷ ws) w a b = absurd (cc a)
fits-push (f ∷ fs) (v ∷ ws) w a b =
    let more : List Field = behind_field f fs v in
    both (may_be f v) (fits more (ws ++ w ∷ [])) (both-left (may_be f v) (fits more ws) a) (fits-push more ws w (both-right (may_be f v) (fits more ws) a) b)

-- the fields to come behind one word more
behind-push : (fs : List Field) (ws : List LineWord) (w : LineWord) → behind fs (ws ++ w ∷ []) ≡ fields_after (behind fs ws) w
behind-push fs [] w = refl
behind-push fs (v ∷ ws) w = behind-push (fields_after fs v) ws w

-- words that stand in the fields, and words behind them with which the line is whole
whole-append : (fs : List Field) (ws more : List LineWord) → fits fs ws ≡ true → whole (behind fs ws) more ≡ true → whole fs (ws ++ more) ≡ true
whole-append fs [] more a b = b
whole-append [] (w ∷ ws) more a b = absurd (cc a)
whole-append (f ∷ fs) (w ∷ ws) more a b =
    let rest : List Field = behind_field f fs w in
    both (may_be f w) (whole rest (ws ++ more)) (both-left (may_be f w) (fits rest ws) a) (whole-append rest ws more (both-right (may_be f w) (fits rest ws) a) b)

-- the next word stands in the next field, and the others behind it
pub whole_next : (fs : List Field) (w : LineWord) (ws : List LineWord) → whole fs (w ∷ ws) ≡ true → (may_be (next_field fs) w ≡ true) × (whole (fields_after fs w) ws ≡ true)
whole_next [] w ws h = absurd (cc h)
whole_next (f ∷ fs) w ws h = (both-left (may_be f w) (whole (behind_field f fs w) ws) h, both-right (may_be f w) (whole (behind_field f fs w) ws) h)

-- bounds ---------------------------------------------------------------------------------------

from_one_told : (high n : ℕ) → has (FromOne high) n ≡ true → (1 ≤ n) × (n ≤ high)
from_one_told high n h = grind (arith, common_steps)

upto_told : (high n : ℕ) → nat_le n high ≡ true → n ≤ high
upto_told high n h = grind (arith, common_steps)

width_told : (n : ℕ) → has Width n ≡ true → IsWidth n
width_told n h = grind (arith, common_steps)

align_by_cases : (n : ℕ) → has Align n ≡ true → (n ≡ 1) ⊎ (n ≡ 2) ⊎ (n ≡ 4) ⊎ (n ≡ 8) ⊎ (n ≡ 16) ⊎ (n ≡ 32) ⊎ (n ≡ 64)
align_by_cases n h = grind (arith, common_steps)

align_told : (n : ℕ) → has Align n ≡ true → IsAlign n
align_told n h = elim (align_by_cases n h) [
  | inl a ↦ (0, omega arith, a)
  | inr x ↦ elim x [
    | inl a ↦ (1, omega arith, a)
    | inr x ↦ elim x [
      | inl a ↦ (2, omega arith, a)
      | inr x ↦ elim x [
        | inl a ↦ (3, omega arith, a)
        | inr x ↦ elim x [
          | inl a ↦ (4, omega arith, a)
          | inr x ↦ elim x [
            | inl a ↦ (5, omega arith, a)
            | inr a ↦ (6, omega arith, a)
          ]
        ]
      ]
    ]
  ]
]

told_from_one : (high n : ℕ) → 1 ≤ n → n ≤ high → has (FromOne high) n ≡ true
told_from_one high n a b = grind (arith, common_steps)

told_upto : (high n : ℕ) → n ≤ high → nat_le n high ≡ true
told_upto high n a = grind (arith, common_steps)

told_width : (n : ℕ) → IsWidth n → has Width n ≡ true
told_width n a = grind (arith, common_steps)

align_is : (k : ℕ) → k ≤ 6 → has Align (2 ^ k) ≡ true
align_is zero le = refl
align_is (suc zero) le = refl
align_is (suc (suc zero)) le = refl
align_is (suc (suc (suc zero))) le = refl
align_is (suc (suc (suc (suc zero)))) le = refl
align_is (suc (suc (suc (suc (suc zero))))) le = refl
align_is (suc (suc (suc (suc (suc (suc zero)))))) le = refl
align_is (suc (suc (suc (suc (suc (suc (suc k))))))) le = absurd (omega arith)

told_align : (n : ℕ) → IsAlign n → has Align n ≡ true
told_align n a = subst (λ m. has Align m ≡ true) (sym a.2) (align_is a.0 a.1)

width_small : (n : ℕ) → IsWidth n → n ≤ 64
width_small n h = grind arith

-- a number that is its own low byte
low : (n : ℕ) → n ≤ 255 → n % 256 ≡ n
low n le = omega arith

-- Every line can be completed --------------------------------------------------------------------

-- some word may stand in the field
abbrev pub HasOne : Field → Type 0
HasOne (FromOne high) = 1 ≤ high
HasOne Nothing = ⊥
HasOne f = Unit {0}

-- a word that may stand in a field, if some word may
abbrev some_word : Field → LineWord
some_word (FromOne high) = Number 1
some_word Width = Number 8
some_word Align = Number 1
some_word Operation = Op Add
some_word OrDash = Dash
some_word OrOf = Of
some_word f = Number 0

-- that word may stand there
pub some_may : (f : Field) → HasOne f → may_be f (some_word f) ≡ true
some_may (FromOne high) one = told_from_one high 1 (omega arith) one
some_may Nothing one = absurd one
some_may (Upto high) one = told_upto high 0 (omega arith)
some_may f one = refl

-- that word is short
pub some_short : (f : Field) → IsShort (some_word f)
some_short Operation = tt
some_short OrDash = tt
some_short OrOf = tt
some_short f = omega arith

-- some word may stand in each of the fields
abbrev HaveOne : List Field → Type 0
HaveOne [] = Unit {0}
HaveOne (f ∷ fs) = HasOne f × HaveOne fs

-- words for all the fields to come
abbrev finish : List Field → List LineWord
finish [] = []
finish (Range ∷ fs) = Number 0 ∷ Number 1 ∷ finish fs
finish (Pairs ∷ fs) = []
finish (Target ∷ fs) = Number 0 ∷ []
finish (Slots ∷ fs) = []
finish (f ∷ fs) = some_word f ∷ finish fs

-- with those words a line is whole
finish_whole : (fs : List Field) → HaveOne fs → whole fs (finish fs) ≡ true
finish_whole [] h = refl
finish_whole (Range ∷ fs) h = finish_whole fs h.1
finish_whole (Pairs ∷ fs) h = refl
finish_whole (Target ∷ fs) h = refl
finish_whole (Slots ∷ fs) h = refl
finish_whole (f ∷ fs) h = both (may_be f (some_word f)) (whole fs (finish fs)) (some_may f h.0) (finish_whole fs h.1)

-- those words are short
finish_short : (fs : List Field) → AreShort (finish fs)
finish_short [] = tt
finish_short (Range ∷ fs) = (omega arith, (omega arith, finish_short fs))
finish_short (Pairs ∷ fs) = tt
finish_short (Target ∷ fs) = (omega arith, tt)
finish_short (Slots ∷ fs) = tt
finish_short (f ∷ fs) = (some_short f, finish_short fs)

-- some word may stand in each field to come, behind one word more
one_behind : (f : Field) (fs : List Field) (w : LineWord) → HaveOne (f ∷ fs) → may_be f w ≡ true → HaveOne (behind_field f fs w)
one_behind Range fs (Number n) h m = (let le = upto_told 63 n m in omega (arith, le), h.1)
one_behind Range fs w h m = absurd (cc m)
one_behind OrOf fs (Number n) h m = (tt, h.1)
one_behind OrOf fs w h m = h.1
one_behind Pairs fs w h m = (tt, h.1)
one_behind Target fs w h m = (tt, h.1)
one_behind Slots fs w h m = (tt, h.1)
one_behind f fs w h m = h.1

-- some word may stand in each field to come, behind words that stand in the fields
ones_behind : (fs : List Field) (ws : List LineWord) → HaveOne fs → fits fs ws ≡ true → HaveOne (behind fs ws)
ones_behind fs [] h a = h
ones_behind [] (w ∷ ws) h a = absurd (cc a)
ones_behind (f ∷ fs) (w ∷ ws) h a =
    let rest : List Field = behind_field f fs w in
    ones_behind rest ws (one_behind f fs w h (both-left (may_be f w) (fits rest ws) a)) (both-right (may_be f w) (fits rest ws) a)

-- some word may stand in each field of the table
table_ones : (k : Key) → HaveOne (fields k)
table_ones key.Const = (tt, (tt, tt))
table_ones key.Copy = (tt, (tt, tt))
table_ones key.Alu = (tt, (omega arith, (tt, (tt, (tt, tt)))))
table_ones key.Take = (tt, (tt, (tt, tt)))
table_ones key.Put = (tt, (tt, (tt, tt)))
table_ones key.Load = (tt, (tt, (tt, (tt, tt))))
table_ones key.Store = (tt, (tt, (tt, (tt, tt))))
table_ones key.Place = (tt, (omega arith, (tt, tt)))
table_ones key.Jump = (tt, tt)
table_ones key.Switch = (tt, (tt, (tt, tt)))
table_ones key.Call = (tt, (tt, (tt, tt)))
table_ones key.Return = (tt, tt)

-- Lists of words ---------------------------------------------------------------------------------

pub short-append : (us vs : List LineWord) → AreShort us → AreShort vs → AreShort (us ++ vs)
short-append [] vs a b = b
short-append (u ∷ us) vs a b = (a.0, short-append us vs a.1 b)

-- the arms that are read, and the number of one more, if that is read
abbrev arms_so : List SwitchArm → Option ℕ → Arms
arms_so arms n = record { arms = arms; number = n }

-- pairs are read as the arms that they spell
pairs_arms : (done arms : List SwitchArm) → fold arms_with_word (arms_so done None) (pairs arms) ≡ arms_so (done ++ arms) None
pairs_arms done [] = ap (λ a. arms_so a None) (sym (append-nil done))
pairs_arms done (arm ∷ arms) = pairs_arms (done ++ arm ∷ []) arms ∙ ap (λ a. arms_so a None) (append_assoc done (arm ∷ []) arms)

-- words that are pairs are those of the arms read
arms_pairs : (done : List SwitchArm) (ws : List LineWord) → whole (Pairs ∷ []) ws ≡ true → pairs ((fold arms_with_word (arms_so done None) ws).arms) ≡ pairs done ++ ws
arms_pairs done [] h = sym (append-nil (pairs done))
arms_pairs done (Number n ∷ Number t ∷ ws) h =
    let arm : SwitchArm = record { number = n; target = t } in
    arms_pairs (done ++ arm ∷ []) ws h ∙ ap (λ vs. vs ++ ws) (pairs-push done arm) ∙ append_assoc (pairs done) (Number n ∷ Number t ∷ []) ws
arms_pairs done ws h = absurd (cc h)

-- the numbers of arms whose words are short
short_arms : (arms : List SwitchArm) → AreShort (pairs arms) → All (λ (arm : SwitchArm). arm.number < 2 ^ 64) arms
short_arms [] h = All-nil (λ (arm : SwitchArm). arm.number < 2 ^ 64)
short_arms (arm ∷ arms) h = All-cons (λ (arm : SwitchArm). arm.number < 2 ^ 64) arm arms h.0 (short_arms arms h.1.1)

-- words that are slots are those of the slots read
slots_words : (ws : List LineWord) → whole (Slots ∷ []) ws ≡ true → numbers (map value_of ws) ≡ ws
slots_words [] h = refl
slots_words (Number n ∷ ws) h = ap (λ vs. Number n ∷ vs) (slots_words ws h)
slots_words ws h = absurd (cc h)

-- the words of slots stand in their field, and are read as those slots
words_slots : (ns : List ℕ) → (whole (Slots ∷ []) (numbers ns) ≡ true) × (map value_of (numbers ns) ≡ ns)
words_slots [] = (refl, refl)
words_slots (n ∷ ns) = let more = words_slots ns in (more.0, ap (λ ms. n ∷ ms) more.1)

-- the two lists of a call that are read, and whether `of` is
abbrev lists_so : List ℕ → List ℕ → Bool → Lists
lists_so ds froms b = record { dests = ds; froms = froms; behind = b }

-- the second list of a call
froms_lists : (ds done ns : List ℕ) → fold lists_with_word (lists_so ds done true) (numbers ns) ≡ lists_so ds (done ++ ns) true
froms_lists ds done [] = ap (λ l. lists_so ds l true) (sym (append-nil done))
froms_lists ds done (n ∷ ns) = froms_lists ds (done ++ n ∷ []) ns ∙ ap (λ l. lists_so ds l true) (append_assoc done (n ∷ []) ns)

-- both lists of a call
call_lists : (done ds froms : List ℕ) → fold lists_with_word (lists_so done [] false) (numbers ds ++ Of ∷ numbers froms) ≡ lists_so (done ++ ds) froms true
call_lists done [] froms = froms_lists done [] froms ∙ ap (λ l. lists_so l froms true) (sym (append-nil done))
call_lists done (d ∷ ds) froms = call_lists (done ++ d ∷ []) ds froms ∙ ap (λ l. lists_so l froms true) (append_assoc done (d ∷ []) ds)

-- words that are the two lists of a call
record IsCallWords (ws : List LineWord) : Type 0 where
  dests : List ℕ
  froms : List ℕ
  is : ws ≡ numbers dests ++ Of ∷ numbers froms

-- words with which the line of a call is whole
call_words : (ws : List LineWord) → whole (OrOf ∷ Slots ∷ []) ws ≡ true → IsCallWords ws
call_words (Of ∷ ws) h = record { dests = []; froms = map value_of ws; is = ap (λ vs. Of ∷ vs) (sym (slots_words ws h)) }
call_words (Number n ∷ ws) h =
    let more : IsCallWords ws = call_words ws h in
    record { dests = n ∷ more.dests; froms = more.froms; is = ap (λ vs. Number n ∷ vs) more.is }
call_words ws h = absurd (cc h)

-- with the words of two lists the line of a call is whole
words_call : (ds froms : List ℕ) → whole (OrOf ∷ Slots ∷ []) (numbers ds ++ Of ∷ numbers froms) ≡ true
words_call [] froms = (words_slots froms).0
words_call (d ∷ ds) froms = words_call ds froms

-- A whole line spells its instruction ------------------------------------------------------------

-- the instruction of a key and words, whose line they are
pub record IsSpelledBy (k : Key) (ws : List LineWord) : Type 0 where
  pub instr : Instr
  pub is : instruction_of k ws ≡ instr
  pub key : key_of instr ≡ k
  pub words : line_words instr ≡ ws
  pub bounded : IsBounded instr

-- three tests that hold together
three : (a b c : Bool) → (a && (b && c)) ≡ true → (a ≡ true) × (b ≡ true)
three a b c h = (both-left a (b && c) h, both-left b c (both-right a (b && c) h))

-- the last of three tests that hold together
last_of : (a b c : Bool) → (a && (b && c)) ≡ true → c ≡ true
last_of a b c h = both-right b c (both-right a (b && c) h)

-- the offset and the length of bits that stay within a word
range_bounds : (o l : ℕ) → (nat_le o 63 && (has (FromOne (64 - o)) l && true)) ≡ true → (o ≤ 63) × (1 ≤ l) × (l ≤ 64 - o)
range_bounds o l h =
    let told = three (nat_le o 63) (has (FromOne (64 - o)) l) true h in
    let long = from_one_told (64 - o) l told.1 in
    (upto_told 63 o told.0, long.0, long.1)

-- a whole line spells the instruction of its key and words
pub spells : (k : Key) (ws : List LineWord) → whole (fields k) ws ≡ true → AreShort ws → IsSpelledBy k ws
spells key.Const (Number d ∷ Number c ∷ []) h s = record { instr = Const d c; is = refl; key = refl; words = refl; bounded = s.1.0 }
spells key.Copy (Number d ∷ Number a ∷ []) h s = record { instr = Copy d a; is = refl; key = refl; words = refl; bounded = tt }
spells key.Alu (Op op ∷ Number n ∷ Number d ∷ Number a ∷ Number b ∷ []) h s =
    let told = from_one_told 64 n (both-left (has (FromOne 64) n) true h) in
    record { instr = Alu op n d a b; is = rw (low n (omega (arith, told.1))) refl; key = refl; words = refl; bounded = told }
spells key.Alu (Op op ∷ Number n ∷ ws) h s = absurd (cc (both-right (has (FromOne 64) n) (whole (Any ∷ Any ∷ Any ∷ []) ws) h))
spells key.Take (Number d ∷ Number a ∷ Number o ∷ Number l ∷ []) h s =
    let told = range_bounds o l h in
    record { instr = Take d a o l; is = rw (low o (omega (arith, told.0)), low l (omega (arith, told.2))) refl; key = refl; words = refl; bounded = (told.1, omega (arith, told.0, told.2)) }
spells key.Take (Number d ∷ Number a ∷ Number o ∷ Number l ∷ ws) h s = absurd (cc (last_of (nat_le o 63) (has (FromOne (64 - o)) l) (whole [] ws) h))
spells key.Take (Number d ∷ Number a ∷ Number o ∷ ws) h s = absurd (cc (both-right (nat_le o 63) (whole (FromOne (64 - o) ∷ []) ws) h))
spells key.Put (Number d ∷ Number a ∷ Number o ∷ Number l ∷ []) h s =
    let told = range_bounds o l h in
    record { instr = Put d a o l; is = rw (low o (omega (arith, told.0)), low l (omega (arith, told.2))) refl; key = refl; words = refl; bounded = (told.1, omega (arith, told.0, told.2)) }
spells key.Put (Number d ∷ Number a ∷ Number o ∷ Number l ∷ ws) h s = absurd (cc (last_of (nat_le o 63) (has (FromOne (64 - o)) l) (whole [] ws) h))
spells key.Put (Number d ∷ Number a ∷ Number o ∷ ws) h s = absurd (cc (both-right (nat_le o 63) (whole (FromOne (64 - o) ∷ []) ws) h))
spells key.Load (Number d ∷ Number a ∷ Number offset ∷ Number width ∷ []) h s =
    let told = three (nat_le offset 511) (has Width width) true h in
    let wide : IsWidth width = width_told width told.1 in
    record { instr = Load d a offset width; is = rw (low width (let le = width_small width wide in omega (arith, le))) refl; key = refl; words = refl; bounded = (upto_told 511 offset told.0, wide) }
spells key.Load (Number d ∷ Number a ∷ Number offset ∷ Number width ∷ ws) h s = absurd (cc (last_of (nat_le offset 511) (has Width width) (whole [] ws) h))
spells key.Load (Number d ∷ Number a ∷ Number offset ∷ ws) h s = absurd (cc (both-right (nat_le offset 511) (whole (Width ∷ []) ws) h))
spells key.Store (Number a ∷ Number offset ∷ Number width ∷ Number v ∷ []) h s =
    let told = three (nat_le offset 511) (has Width width) true h in
    let wide : IsWidth width = width_told width told.1 in
    record { instr = Store a offset width v; is = rw (low width (let le = width_small width wide in omega (arith, le))) refl; key = refl; words = refl; bounded = (upto_told 511 offset told.0, wide) }
spells key.Store (Number a ∷ Number offset ∷ Number width ∷ ws) h s = absurd (cc (last_of (nat_le offset 511) (has Width width) (whole (Any ∷ []) ws) h))
spells key.Store (Number a ∷ Number offset ∷ ws) h s = absurd (cc (both-right (nat_le offset 511) (whole (Width ∷ Any ∷ []) ws) h))
spells key.Place (Number d ∷ Number size ∷ Number align ∷ []) h s =
    let told = three (has (FromOne 512) size) (has Align align) true h in
    let size_told = from_one_told 512 size told.0 in
    record { instr = Place d size align; is = refl; key = refl; words = refl; bounded = ((omega (arith, size_told.0), size_told.1), align_told align told.1) }
spells key.Place (Number d ∷ Number size ∷ Number align ∷ ws) h s = absurd (cc (last_of (has (FromOne 512) size) (has Align align) (whole [] ws) h))
spells key.Place (Number d ∷ Number size ∷ ws) h s = absurd (cc (both-right (has (FromOne 512) size) (whole (Align ∷ []) ws) h))
spells key.Jump (Number t ∷ []) h s = record { instr = Jump t; is = refl; key = refl; words = refl; bounded = tt }
spells key.Switch (Number a ∷ Number t ∷ ws) h s = record {
  instr = Switch a (Some t) (arms_in ws);
  is = refl;
  key = refl;
  words = ap (λ vs. Number a ∷ Number t ∷ vs) (arms_pairs [] ws h);
  bounded = short_arms (arms_in ws) (subst AreShort (sym (arms_pairs [] ws h)) s.1.1);
}
spells key.Switch (Number a ∷ Dash ∷ ws) h s = record {
  instr = Switch a None (arms_in ws);
  is = refl;
  key = refl;
  words = ap (λ vs. Number a ∷ Dash ∷ vs) (arms_pairs [] ws h);
  bounded = short_arms (arms_in ws) (subst AreShort (sym (arms_pairs [] ws h)) s.1.1);
}
spells key.Call (Number f ∷ ws) h s =
    let told : IsCallWords ws = call_words ws h in
    let lists : lists_in ws ≡ lists_so told.dests told.froms true = ap lists_in told.is ∙ call_lists [] told.dests told.froms in
    record {
      instr = Call f told.dests told.froms;
      is = ap (λ (l : Lists). Call f l.dests l.froms) lists;
      key = refl;
      words = ap (λ vs. Number f ∷ vs) (sym told.is);
      bounded = tt;
    }
spells key.Return ws h s = record { instr = Return (map value_of ws); is = refl; key = refl; words = slots_words ws h; bounded = tt }
spells k ws h s = absurd (cc h)

-- the instruction that short words spell can stand in a text
pub spelled_fit : (k : Key) (ws : List LineWord) (s : IsSpelledBy k ws) → AreShort ws → IsFit s.instr
spelled_fit k ws s short = record { bounded = s.bounded; short = subst AreShort (sym s.words) short }

-- Lines in part ----------------------------------------------------------------------------------

-- words that stand in the fields of a key, and the fields to come behind them
pub record IsGoodLine (l : Line) : Type 0 where
  pub fit : fits (fields l.key) l.words ≡ true
  pub rest : l.rest ≡ behind (fields l.key) l.words
  pub short : AreShort l.words

-- behind its key a line is good
pub first_good : (k : Key) → IsGoodLine (first_line k)
first_good k = record { fit = refl; rest = refl; short = tt }

-- one word more, in the next field, keeps a line good
pub word_follows : (l : Line) (w : LineWord) → IsGoodLine l → may_be (next_field l.rest) w ≡ true → IsShort w → IsGoodLine (after_word l w)
word_follows l w g may short = record {
  fit = fits-push (fields l.key) l.words w g.fit (subst (λ fs. may_be (next_field fs) w ≡ true) g.rest may);
  rest = ap (λ fs. fields_after fs w) g.rest ∙ sym (behind-push (fields l.key) l.words w);
  short = short-append l.words (w ∷ []) g.short (short, tt);
}

-- where a line may end, its words are an instruction's
pub line_spells : (l : Line) → IsGoodLine l → may_end l.rest ≡ true → IsSpelledBy l.key l.words
line_spells l g h =
    let all : whole (fields l.key) (l.words ++ []) ≡ true = whole-append (fields l.key) l.words [] g.fit (subst (λ fs. may_end fs ≡ true) g.rest h) in
    spells l.key l.words (subst (λ ws. whole (fields l.key) ws ≡ true) (append-nil l.words) all) g.short

-- words behind a line with which it is whole
pub record Completes (l : Line) : Type 0 where
  pub more : List LineWord
  pub short : AreShort more
  pub spelled : IsSpelledBy l.key (l.words ++ more)

-- some word may stand in each field to come of a good line
pub ones_to_come : (l : Line) → IsGoodLine l → HaveOne l.rest
ones_to_come l g = subst HaveOne (sym g.rest) (ones_behind (fields l.key) l.words (table_ones l.key) g.fit)

-- every good line can be completed
pub completes : (l : Line) → IsGoodLine l → Completes l
completes l g =
    let more : List LineWord = finish l.rest in
    let all : whole (fields l.key) (l.words ++ more) ≡ true =
    whole-append (fields l.key) l.words more g.fit (subst (λ fs. whole fs more ≡ true) g.rest (finish_whole l.rest (ones_to_come l g))) in
    record { more = more; short = finish_short l.rest; spelled = spells l.key (l.words ++ more) all (short-append l.words more g.short (finish_short l.rest)) }

-- some word that may stand in a field
pub record IsNext (f : Field) : Type 0 where
  pub word : LineWord
  pub may : may_be f word ≡ true
  pub short : IsShort word

-- where a word may follow, this one may
pub next_word : (fs : List Field) → HaveOne fs → is_open (next_field fs) ≡ true → IsNext (next_field fs)
next_word [] h e = absurd (cc e)
next_word (f ∷ fs) h e = record { word = some_word f; may = some_may f h.0; short = some_short f }

-- where no word follows, the line may end
pub closed_ends : (fs : List Field) → HaveOne fs → is_open (next_field fs) ≡ false → may_end fs ≡ true
closed_ends [] h closed = refl
closed_ends (Nothing ∷ fs) h closed = absurd h.0
closed_ends (f ∷ fs) h closed = absurd (cc closed)

-- Every instruction's line is read whole ---------------------------------------------------------

-- the words of an instruction are read as its line with the key k
pub record Reads (k : Key) (j : Instr) : Type 0 where
  pub key : key_of j ≡ k
  pub whole : whole (fields k) (line_words j) ≡ true
  pub is : instruction_of k (line_words j) ≡ j

reads_alu : (op : AluOp) (n d a b : ℕ) → IsBounded (Alu op n d a b) → Reads key.Alu (Alu op n d a b)
reads_alu op n d a b h = record { key = refl; whole = both (has (FromOne 64) n) true (told_from_one 64 n h.0 h.1) refl; is = rw (low n (omega (arith, h.1))) refl }

-- an offset and a length that stay within a word stand in their fields
range_whole : (o l : ℕ) → 1 ≤ l → o ≤ 63 → l ≤ 64 - o → (nat_le o 63 && (has (FromOne (64 - o)) l && true)) ≡ true
range_whole o l one le fits = both (nat_le o 63) (has (FromOne (64 - o)) l && true) (told_upto 63 o le) (both (has (FromOne (64 - o)) l) true (told_from_one (64 - o) l one fits) refl)

reads_take : (d a o l : ℕ) → IsBounded (Take d a o l) → Reads key.Take (Take d a o l)
reads_take d a o l h = record {
  key = refl;
  whole = range_whole o l h.0 (omega (arith, h.0, h.1)) (omega (arith, h.1));
  is = rw (low o (omega (arith, h.1)), low l (omega (arith, h.1))) refl;
}

reads_put : (d a o l : ℕ) → IsBounded (Put d a o l) → Reads key.Put (Put d a o l)
reads_put d a o l h = record {
  key = refl;
  whole = range_whole o l h.0 (omega (arith, h.0, h.1)) (omega (arith, h.1));
  is = rw (low o (omega (arith, h.1)), low l (omega (arith, h.1))) refl;
}

-- an offset and a width stand in their fields
word_whole : (offset width : ℕ) → offset ≤ 511 → IsWidth width → (nat_le offset 511 && (has Width width && true)) ≡ true
word_whole offset width le wide = both (nat_le offset 511) (has Width width && true) (told_upto 511 offset le) (both (has Width width) true (told_width width wide) refl)

reads_load : (d a offset width : ℕ) → IsBounded (Load d a offset width) → Reads key.Load (Load d a offset width)
reads_load d a offset width h = record { key = refl; whole = word_whole offset width h.0 h.1; is = rw (low width (let le = width_small width h.1 in omega (arith, le))) refl }

reads_store : (a offset width v : ℕ) → IsBounded (Store a offset width v) → Reads key.Store (Store a offset width v)
reads_store a offset width v h = record { key = refl; whole = word_whole offset width h.0 h.1; is = rw (low width (let le = width_small width h.1 in omega (arith, le))) refl }

reads_place : (d size align : ℕ) → IsBounded (Place d size align) → Reads key.Place (Place d size align)
reads_place d size align h = record {
  key = refl;
  whole = both (has (FromOne 512) size) (has Align align && true) (told_from_one 512 size (omega (arith, h.0.0)) h.0.1) (both (has Align align) true (told_align align h.1) refl);
  is = refl;
}

-- with the words of arms the line of a switch is whole
pairs_whole : (arms : List SwitchArm) → whole (Pairs ∷ []) (pairs arms) ≡ true
pairs_whole [] = refl
pairs_whole (arm ∷ arms) = pairs_whole arms

reads_switch : (a : ℕ) (other : Option ℕ) (arms : List SwitchArm) → Reads key.Switch (Switch a other arms)
reads_switch a None arms = record { key = refl; whole = pairs_whole arms; is = ap (λ (r : Arms). Switch a None r.arms) (pairs_arms [] arms) }
reads_switch a (Some t) arms = record { key = refl; whole = pairs_whole arms; is = ap (λ (r : Arms). Switch a (Some t) r.arms) (pairs_arms [] arms) }

reads_call : (f : ℕ) (ds froms : List ℕ) → Reads key.Call (Call f ds froms)
reads_call f ds froms = record { key = refl; whole = words_call ds froms; is = ap (λ (l : Lists). Call f l.dests l.froms) (call_lists [] ds froms) }

reads_return : (froms : List ℕ) → Reads key.Return (Return froms)
reads_return froms = let told = words_slots froms in record { key = refl; whole = told.0; is = ap Return told.1 }

-- every instruction within its bounds is read from its words
pub reads : (j : Instr) → IsBounded j → Reads (key_of j) j
reads (Const d c) h = record { key = refl; whole = refl; is = refl }
reads (Copy d a) h = record { key = refl; whole = refl; is = refl }
reads (Alu op n d a b) h = reads_alu op n d a b h
reads (Take d a o l) h = reads_take d a o l h
reads (Put d a o l) h = reads_put d a o l h
reads (Load d a offset width) h = reads_load d a offset width h
reads (Store a offset width v) h = reads_store a offset width v h
reads (Place d size align) h = reads_place d size align h
reads (Jump t) h = record { key = refl; whole = refl; is = refl }
reads (Switch a other arms) h = reads_switch a other arms
reads (Call f ds froms) h = reads_call f ds froms
reads (Return froms) h = reads_return froms
