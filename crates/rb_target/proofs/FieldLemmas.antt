-- The words that may stand in a field, and the fronts of their texts.
use Rattle.std.proofs.Common.{◌≡◌, ℕ, zero, suc, ◌+◌, ◌-◌, ◌*◌, ◌/◌, ◌%◌, ◌<◌, ◌≤◌, ◌^◌, List, [], ◌∷◌, ◌++◌, length, drop, nat_eq, nat_le, Bool, true, false, cond, ◌||◌, ◌&&◌, nat_lt, ◌⊎◌, inl, inr, if◌then◌else◌, codes, Option, Some, None, refl, sym, ◌∙◌, ap, subst, arith, append_assoc, append-nil}
use Rattle.std.specs.Fmt.{decimal}
use Rattle.std.specs.Str.Parse.{digits_value}
use Rattle.std.specs.Prelude.{find}
use Rattle.std.specs.List.{starts_with, list_any}
use Rattle.std.specs.Cmp.Lexicographic.{pointwise, same_text}
use Rattle.std.proofs.lemmas.Bool.Decides.{Decides-eqb}
use Rattle.std.proofs.lemmas.Slice.Eq.{starts_is}
use Rattle.std.proofs.lemmas.Fmt.{decimal_digit, decimal_step}
use Rattle.std.proofs.lemmas.Grind.{common_steps}
use Rattle.std.proofs.lemmas.Option.{same_Some}
use Rattle.rb_core.specs.Decimal.{is_numeral}
use Rattle.rb_core.proofs.Decimals.{numeral_spelled, numeral-decimal, value-decimal}
use Rattle.rb_target.specs.Text.{line_word_text, op_text, key_text}
use Rattle.rb_target.specs.Spelled.{IsShort}
use Rattle.rb_target.specs.inner.Reading.{is_gap}
use Rattle.rb_target.specs.inner.Fields.{number_of_word, has, leads, is_open, ops, op_of_word, op_word, named_word, numbered_word, word_in, named_front, numbered_front, is_word_front, keys, key_of_word}
use Rattle.rb_target.specs.declared.instr.AluOp.{AluOp}
use Rattle.rb_target.specs.declared.instr.AluOp.TheVariants.{Add, Sub, Mul, And, Or, Xor, Eq, Lt}
use Rattle.rb_target.specs.declared.word.LineWord.{LineWord}
use Rattle.rb_target.specs.declared.word.LineWord.TheVariants.{Number, Op, Dash, Of}
use Rattle.rb_target.specs.declared.word.Key.{Key}
use Rattle.rb_target.specs.declared.read.spot.Field.{Field}
use Rattle.rb_target.specs.declared.read.spot.Field.TheVariants.{Upto, FromOne, Width, Align, Range, Operation, OrDash, OrOf, Nothing}

-- whether a word may stand in a field
abbrev pub may_be : Field → LineWord → Bool
may_be Nothing w = false
may_be f (Number n) = has f n
may_be Operation (Op op) = true
may_be OrDash Dash = true
may_be OrOf Of = true
may_be f w = false

pub in_open : (f : Field) (w : LineWord) → may_be f w ≡ true → is_open f ≡ true
in_open Nothing w h = absurd (cc h)
in_open f w h = refl

pub both-left : (a b : Bool) → (a && b) ≡ true → a ≡ true
both-left true b e = refl
both-left false b e = e

pub both-right : (a b : Bool) → (a && b) ≡ true → b ≡ true
both-right true b e = e
both-right false b e = cc

-- numbers ----------------------------------------------------------------------------------------

pub number_told : (w : List ℕ) (n : ℕ) → number_of_word w ≡ Some n → (w ≡ decimal n) × (n < 2 ^ 64)
number_told w n e = elim (is_numeral w) as (λ (b : Bool). is_numeral w ≡ b → (if b && (nat_le 0 (digits_value 10 w) && nat_le (digits_value 10 w) (2 ^ 64 - 1)) then Some (digits_value 10 w) else None) ≡ Some n → (w ≡ decimal n) × (n < 2 ^ 64)) [
  | false ↦ λ h g. absurd (cc g)
  | true ↦ λ h g.
      let v = digits_value 10 w in
      elim (nat_le 0 v && nat_le v (2 ^ 64 - 1)) as (λ (b : Bool). (nat_le 0 v && nat_le v (2 ^ 64 - 1)) ≡ b → (if b then Some v else None) ≡ Some n → (w ≡ decimal n) × (n < 2 ^ 64)) [
        | false ↦ λ k z. absurd (cc z)
        | true ↦ λ k z.
            let same : v ≡ n = same_Some v n z in
            let small : v < 2 ^ 64 = grind (arith, common_steps) in
            (sym (numeral_spelled w h small) ∙ ap decimal same, omega (arith, small, same))
      ] refl g
] refl e

within-max : (n : ℕ) → n < 2 ^ 64 → (nat_le 0 n && nat_le n (2 ^ 64 - 1)) ≡ true
within-max n h = grind (arith, common_steps)

pub number_decimal : (n : ℕ) → n < 2 ^ 64 → number_of_word (decimal n) ≡ Some n
number_decimal n small = rw (numeral-decimal n small, value-decimal n small, within-max n small) refl

-- words ------------------------------------------------------------------------------------------

-- what a word that is read is
pub record Told (f : Field) (w : List ℕ) (x : LineWord) : Type 0 where
  pub text : w ≡ line_word_text x
  pub may : may_be f x ≡ true
  pub short : IsShort x

if_told : (f : Field) (w text : List ℕ) (y x : LineWord) → (w ≡ text → Told f w y) → (if pointwise nat_eq w text then Some y else None) ≡ Some x → Told f w x
if_told f w text y x h e = elim (pointwise nat_eq w text) as (λ (b : Bool). b ≡ pointwise nat_eq w text → (if b then Some y else None) ≡ Some x → Told f w x) [
  | true ↦ λ k g. subst (λ z. Told f w z) (same_Some y x g) (h (same_text w text k))
  | false ↦ λ k g. absurd (cc g)
] refl e

-- a number that may stand there is a word that may
pub number_may : (f : Field) (n : ℕ) → has f n ≡ true → may_be f (Number n) ≡ true
number_may Nothing n h = absurd (cc h)
number_may f n h = h

may_number : (f : Field) (n : ℕ) → may_be f (Number n) ≡ true → has f n ≡ true
may_number Nothing n h = absurd (cc h)
may_number f n h = h

find_told : {X : Type 0} (p : X → Bool) (xs : List X) (x : X) → find p xs ≡ Some x → p x ≡ true
find_told p [] x e = cc
find_told p (y ∷ ys) x e = elim (p y) as (λ (b : Bool). p y ≡ b → cond b (Some y) (find p ys) ≡ Some x → p x ≡ true) [
  | true ↦ λ h g. let k : y ≡ x = cc in ap p (sym k) ∙ h
  | false ↦ λ h g. find_told p ys x g
] refl e

pub key_told : (w : List ℕ) (k : Key) → key_of_word w ≡ Some k → key_text k ≡ w
key_told w k e = same_text (key_text k) w (sym (find_told (λ j. pointwise nat_eq (key_text j) w) keys k e))

op_told : (w : List ℕ) (o : Option AluOp) (x : LineWord) → op_of_word w ≡ o → op_word o ≡ Some x → Told Operation w x
op_told w None x e g = absurd (cc g)
op_told w (Some op) x e g =
    let same : op_text op ≡ w = same_text (op_text op) w (sym (find_told (λ o. pointwise nat_eq (op_text o) w) ops op e)) in
    subst (λ z. Told Operation w z) (same_Some (Op op) x g) (record { text = sym same; may = refl; short = tt })

named_told : (f : Field) (w : List ℕ) (x : LineWord) → named_word f w ≡ Some x → Told f w x
named_told Operation w x e = op_told w (op_of_word w) x refl e
named_told OrDash w x e = if_told OrDash w (codes "-") Dash x (λ s. record { text = s; may = refl; short = tt }) e
named_told OrOf w x e = if_told OrOf w (codes "of") Of x (λ s. record { text = s; may = refl; short = tt }) e
named_told f w x e = absurd (cc e)

numbered_told : (f : Field) (w : List ℕ) (x : LineWord) (o : Option ℕ) → number_of_word w ≡ o → numbered_word f w o ≡ Some x → Told f w x
numbered_told f w x None o e = named_told f w x e
numbered_told f w x (Some n) o e = elim (has f n) as (λ (b : Bool). has f n ≡ b → (if b then Some (Number n) else None) ≡ Some x → Told f w x) [
  | true ↦ λ k g.
      let told = number_told w n o in
      subst (λ z. Told f w z) (same_Some (Number n) x g) (record { text = told.0; may = number_may f n k; short = told.1 })
  | false ↦ λ k g. absurd (cc g)
] refl e

pub word_told_in : (f : Field) (w : List ℕ) (x : LineWord) → word_in f w ≡ Some x → Told f w x
word_told_in f w x e = numbered_told f w x (number_of_word w) refl e

op_in_text : (o : AluOp) → word_in Operation (op_text o) ≡ Some (Op o)
op_in_text Add = refl
op_in_text Sub = refl
op_in_text Mul = refl
op_in_text And = refl
op_in_text Or = refl
op_in_text Xor = refl
op_in_text Eq = refl
op_in_text Lt = refl

op_in_field : (f : Field) (o : AluOp) → may_be f (Op o) ≡ true → word_in f (op_text o) ≡ Some (Op o)
op_in_field Operation o h = op_in_text o
op_in_field f o h = absurd (cc h)

dash_in_field : (f : Field) → may_be f Dash ≡ true → word_in f (codes "-") ≡ Some Dash
dash_in_field OrDash h = refl
dash_in_field f h = absurd (cc h)

of_in_field : (f : Field) → may_be f Of ≡ true → word_in f (codes "of") ≡ Some Of
of_in_field OrOf h = refl
of_in_field f h = absurd (cc h)

pub word_in_text : (f : Field) (x : LineWord) → may_be f x ≡ true → IsShort x → word_in f (line_word_text x) ≡ Some x
word_in_text f (Number n) h small = let k = may_number f n h in rw (number_decimal n small, k) refl
word_in_text f (Op o) h small = op_in_field f o h
word_in_text f Dash h small = dash_in_field f h
word_in_text f Of h small = of_in_field f h

-- fronts -----------------------------------------------------------------------------------------

-- the front of a word that may stand there
pub record IsWordFront (f : Field) (q : List ℕ) : Type 0 where
  pub word : LineWord
  pub rest : List ℕ
  pub may : may_be f word ≡ true
  pub short : IsShort word
  pub is : q ++ rest ≡ line_word_text word

pub starts_rest : (text q : List ℕ) → starts_with nat_eq text q ≡ true → q ++ drop (length q) text ≡ text
starts_rest text q e = sym ((starts_is Decides-eqb text q (starts_with nat_eq text q) refl).0 e)

pub rest_starts : (text q rest : List ℕ) → q ++ rest ≡ text → starts_with nat_eq text q ≡ true
rest_starts text q rest e = (starts_is Decides-eqb text q (starts_with nat_eq text q) refl).1 rest (sym e)

pub any_told : {X : Type 0} (p : X → Bool) (xs : List X) → list_any p xs ≡ true → (x : X) × (p x ≡ true)
any_told p [] e = absurd (cc e)
any_told p (x ∷ xs) e = elim (p x) as (λ (b : Bool). p x ≡ b → (b || list_any p xs) ≡ true → (y : _) × (p y ≡ true)) [
  | true ↦ λ h g. (x, h)
  | false ↦ λ h g. any_told p xs g
] refl e

named_front-told : (f : Field) (q : List ℕ) → named_front f q ≡ true → IsWordFront f q
named_front-told Operation q e =
    let o = any_told (λ o. starts_with nat_eq (op_text o) q) ops e in
    record { word = Op o.0; rest = _; may = refl; short = tt; is = starts_rest (op_text o.0) q o.1 }
named_front-told OrDash q e = record { word = Dash; rest = _; may = refl; short = tt; is = starts_rest (codes "-") q e }
named_front-told OrOf q e = record { word = Of; rest = _; may = refl; short = tt; is = starts_rest (codes "of") q e }
named_front-told f q e = absurd (cc e)

-- one digit more
more_digit : (f : Field) (q : List ℕ) (n d : ℕ) → q ≡ decimal n → 1 ≤ n → n < 10 → d < 10 → has f (n * 10 + d) ≡ true → IsWordFront f q
more_digit f q n d e low high digit h =
    let tens : (n * 10 + d) / 10 ≡ n = omega arith in
    let ones : (n * 10 + d) % 10 ≡ d = omega arith in
    record {
      word = Number (n * 10 + d);
      rest = (48 + d) ∷ [];
      may = number_may f (n * 10 + d) h;
      short = omega (arith, high, digit);
      is = ap (λ t. t ++ (48 + d) ∷ []) e ∙ ap2 tens ones;
    }
  where
    ap2 : (n * 10 + d) / 10 ≡ n → (n * 10 + d) % 10 ≡ d → decimal n ++ (48 + d) ∷ [] ≡ decimal (n * 10 + d)
    ap2 t o = sym (decimal_step (n * 10 + d) (omega (arith, low)) (omega (arith, high, digit)) ∙ rw (t, o) refl)

lead_width : (n : ℕ) → leads Width n ≡ true → (n ≡ 1) ⊎ (n ≡ 3) ⊎ (n ≡ 6)
lead_width n h = grind (arith, common_steps)

lead_align : (n : ℕ) → leads Align n ≡ true → (n ≡ 3) ⊎ (n ≡ 6)
lead_align n h = grind (arith, common_steps)

led : (f : Field) (q : List ℕ) (n : ℕ) → q ≡ decimal n → leads f n ≡ true → IsWordFront f q
led Width q n e h = elim (lead_width n h) [
  | inl a ↦ more_digit Width q n 6 e (omega (arith, a)) (omega (arith, a)) (omega arith) (rw a refl)
  | inr o ↦ elim o [
    | inl b ↦ more_digit Width q n 2 e (omega (arith, b)) (omega (arith, b)) (omega arith) (rw b refl)
    | inr c ↦ more_digit Width q n 4 e (omega (arith, c)) (omega (arith, c)) (omega arith) (rw c refl)
  ]
]
led Align q n e h = elim (lead_align n h) [
  | inl b ↦ more_digit Align q n 2 e (omega (arith, b)) (omega (arith, b)) (omega arith) (rw b refl)
  | inr c ↦ more_digit Align q n 4 e (omega (arith, c)) (omega (arith, c)) (omega arith) (rw c refl)
]
led f q n e h = absurd (cc h)

numbered_front-told : (f : Field) (q : List ℕ) (o : Option ℕ) → number_of_word q ≡ o → numbered_front f q o ≡ true → IsWordFront f q
numbered_front-told f q None o e = named_front-told f q e
numbered_front-told f q (Some n) o e = elim (has f n) as (λ (b : Bool). has f n ≡ b → (b || leads f n) ≡ true → IsWordFront f q) [
  | true ↦ λ k g.
      let told = number_told q n o in
      record { word = Number n; rest = []; may = number_may f n k; short = told.1; is = append-nil q ∙ told.0 }
  | false ↦ λ k g. led f q n (number_told q n o).0 g
] refl e

pub word_front_told : (f : Field) (q : List ℕ) → is_word_front f q ≡ true → IsWordFront f q
word_front_told f q e = numbered_front-told f q (number_of_word q) refl e

abbrev begins : Field → ℕ → Bool
begins f n = has f n || leads f n

begins_tenth : (f : Field) (n : ℕ) → begins f n ≡ true → 10 ≤ n → begins f (n / 10) ≡ true
begins_tenth (Upto high) n h big = grind (arith, common_steps)
begins_tenth (FromOne high) n h big = grind (arith, common_steps)
begins_tenth Width n h big = grind (arith, common_steps)
begins_tenth Align n h big = grind (arith, common_steps)
begins_tenth Range n h big = grind (arith, common_steps)
begins_tenth Operation n h big = absurd (cc h)
begins_tenth Nothing n h big = absurd (cc h)
begins_tenth f n h big = refl

-- each byte of a text can be read, from a front on
abbrev pub Steps : (List ℕ → ℕ → Bool) → List ℕ → List ℕ → Type 0
Steps go p [] = Unit {0}
Steps go p (b ∷ bs) = (is_gap b ≡ false) × (go (p ++ b ∷ []) b ≡ true) × Steps go (p ++ b ∷ []) bs

pub steps-push : (go : List ℕ → ℕ → Bool) (p xs : List ℕ) (b : ℕ) → Steps go p xs → is_gap b ≡ false → go (p ++ (xs ++ b ∷ [])) b ≡ true → Steps go p (xs ++ b ∷ [])
steps-push go p [] b s g h = (g, h, tt)
steps-push go p (x ∷ xs) b s g h =
    (s.0, s.1, steps-push go (p ++ x ∷ []) xs b s.2 g (subst (λ t. go t b ≡ true) (sym (append_assoc p (x ∷ []) (xs ++ b ∷ []))) h))

digit_gap : (d : ℕ) → d < 10 → is_gap (48 + d) ≡ false
digit_gap d h = grind (arith, common_steps)

pub decimal_steps : (go : List ℕ → ℕ → Bool) (may : ℕ → Bool) → ((n b : ℕ) → may n ≡ true → n < 2 ^ 64 → go (decimal n) b ≡ true) → ((n : ℕ) → may n ≡ true → 10 ≤ n → may (n / 10) ≡ true)
    → (k n : ℕ) → n ≤ k → n < 2 ^ 64 → may n ≡ true → Steps go [] (decimal n)
decimal_steps go may goes tenth zero n le small h =
    let one : n < 10 = omega (arith, le) in
    let byte : ℕ = 48 + n in
    subst (λ t. Steps go [] t) (sym (decimal_digit n one)) (digit_gap n one, subst (λ t. go t byte ≡ true) (decimal_digit n one) (goes n byte h small), tt)
decimal_steps go may goes tenth (suc k) n le small h = elim (nat_lt n 10) as (λ (b : Bool). nat_lt n 10 ≡ b → Steps go [] (decimal n)) [
  | true ↦ λ e.
      let one : n < 10 = grind (arith, common_steps) in
      let byte : ℕ = 48 + n in
      subst (λ t. Steps go [] t) (sym (decimal_digit n one)) (digit_gap n one, subst (λ t. go t byte ≡ true) (decimal_digit n one) (goes n byte h small), tt)
  | false ↦ λ e.
      let big : 10 ≤ n = grind (arith, common_steps) in
      let byte : ℕ = 48 + n % 10 in
      let last : n % 10 < 10 = omega arith in
      subst (λ t. Steps go [] t) (sym (decimal_step n big small))
      (steps-push go [] (decimal (n / 10)) byte (decimal_steps go may goes tenth k (n / 10) (omega (arith, le, big)) (omega (arith, small)) (tenth n h big)) (digit_gap (n % 10) last)
      (subst (λ t. go t byte ≡ true) (decimal_step n big small) (goes n byte h small)))
] refl

op_steps : (o : AluOp) → Steps (λ w b. is_word_front Operation w) [] (op_text o)
op_steps Add = (refl, refl, (refl, refl, (refl, refl, tt)))
op_steps Sub = (refl, refl, (refl, refl, (refl, refl, tt)))
op_steps Mul = (refl, refl, (refl, refl, (refl, refl, tt)))
op_steps And = (refl, refl, (refl, refl, (refl, refl, tt)))
op_steps Or = (refl, refl, (refl, refl, tt))
op_steps Xor = (refl, refl, (refl, refl, (refl, refl, tt)))
op_steps Eq = (refl, refl, (refl, refl, tt))
op_steps Lt = (refl, refl, (refl, refl, tt))

op_steps_in : (f : Field) (o : AluOp) → may_be f (Op o) ≡ true → Steps (λ w b. is_word_front f w) [] (op_text o)
op_steps_in Operation o h = op_steps o
op_steps_in f o h = absurd (cc h)

dash_steps : (f : Field) → may_be f Dash ≡ true → Steps (λ w b. is_word_front f w) [] (codes "-")
dash_steps OrDash h = (refl, refl, tt)
dash_steps f h = absurd (cc h)

of_steps : (f : Field) → may_be f Of ≡ true → Steps (λ w b. is_word_front f w) [] (codes "of")
of_steps OrOf h = (refl, refl, (refl, refl, tt))
of_steps f h = absurd (cc h)

pub word_steps : (f : Field) (x : LineWord) → may_be f x ≡ true → IsShort x → Steps (λ w b. is_word_front f w) [] (line_word_text x)
word_steps f (Number n) h small =
    let k = may_number f n h in
    decimal_steps (λ w b. is_word_front f w) (begins f) (λ m b g s. rw (number_decimal m s) g) (begins_tenth f) n n (omega arith) small (rw k refl)
word_steps f (Op o) h small = op_steps_in f o h
word_steps f Dash h small = dash_steps f h
word_steps f Of h small = of_steps f h
