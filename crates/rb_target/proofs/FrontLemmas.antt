-- What is read so far is the front of a code text.
use Rattle.std.proofs.Common.{◌≡◌, ℕ, ◌<◌, ◌^◌, List, [], ◌∷◌, ◌++◌, length, take, nat_eq, nat_lt, Bool, true, false, ◌&&◌, ◌==◌, ◌⊎◌, inl, inr, if◌then◌else◌, codes, Option, Some, None, refl, sym, ◌∙◌, ap, subst, arith, append_assoc, append-nil, eqb-true}
use Rattle.std.specs.Fmt.{decimal}
use Rattle.std.specs.Cmp.Lexicographic.{pointwise, same_text}
use Rattle.rb_target.proofs.Texts.{spaced_text-push, body_text-push}
use Rattle.rb_target.proofs.FieldLemmas.{number_told, key_told, word_told_in, both-left, both-right}
use Rattle.rb_target.proofs.LineLemmas.{IsSpelledBy, spelled_fit, IsGoodLine, first_good, word_follows, line_spells}
use Rattle.rb_target.proofs.RunLemmas.{pushed, counts}
use Rattle.rb_target.specs.Text.{line_word_text, key_text, key_of, spaced_text, instr_text, head_text, body_text, fun_text}
use Rattle.rb_target.specs.Validity.{IsLower}
use Rattle.rb_target.proofs.SpelledForms.{IsFit, AreFit, IsFitFun}
use Rattle.rb_target.specs.inner.Fields.{number_of_word, is_open, word_in, key_of_word, next_field, may_end, first_line, after_word, instruction_of}
use Rattle.rb_target.specs.inner.Reading.{function_of_name, line_next, end_move, start_move, word_move, count_move, step}
use Rattle.rb_target.specs.declared.instr.Instr.{Instr}
use Rattle.rb_target.specs.declared.word.LineWord.{LineWord}
use Rattle.rb_target.specs.declared.word.LineWord.TheVariants.{Number}
use Rattle.rb_target.specs.declared.code.CodeFun.{CodeFun}
use Rattle.rb_target.specs.declared.word.Key.{Key}
use Rattle.rb_target.specs.declared.read.spot.Turn.{Turn}
use Rattle.rb_target.specs.declared.read.spot.Turn.TheVariants.{First, Second, Third}
use Rattle.rb_target.specs.declared.read.spot.Line.{Line}
use Rattle.rb_target.specs.declared.read.spot.Spot.{Spot}
use Rattle.rb_target.specs.declared.read.spot.Spot.TheVariants.{Outside, Naming, Heading, Starting, Within}
use Rattle.rb_target.specs.declared.read.spot.Move.{Move}
use Rattle.rb_target.specs.declared.read.spot.Move.TheVariants.{To, Closed, Refused}

-- What is read ---------------------------------------------------------------------------------

-- a function up to the first word of a line
abbrev pub opened : CodeFun → List ℕ
opened f = head_text f ++ body_text f.body

-- up to the byte behind a word of an instruction's line
abbrev pub line_front : CodeFun → Line → List ℕ
line_front f l = opened f ++ (key_text l.key ++ spaced_text l.words)

-- how many counts stand before a turn's
abbrev counts_before : Turn → ℕ
counts_before First = 0
counts_before Second = 1
counts_before Third = 2

-- up to the byte behind a word of a function's first line
abbrev pub head_front : CodeFun → Turn → List ℕ
head_front f t = codes "fun " ++ (f.name ++ spaced_text (take (counts_before t) (counts f)))

abbrev pub spot_text : Spot → List ℕ
spot_text Outside = []
spot_text Naming = codes "fun "
spot_text (Heading f t) = head_front f t ++ 32 ∷ []
spot_text (Starting f) = opened f
spot_text (Within f l) = line_front f l ++ 32 ∷ []

pub record IsGoodHead (f : CodeFun) (t : Turn) : Type 0 where
  pub fun : IsFitFun f
  pub empty : f.body ≡ []

pub record IsGoodWithin (f : CodeFun) (l : Line) : Type 0 where
  pub fun : IsFitFun f
  pub line : IsGoodLine l
  pub more : is_open (next_field l.rest) ≡ true

abbrev pub IsGood : Spot → Type 0
IsGood Outside = Unit {0}
IsGood Naming = Unit {0}
IsGood (Heading f t) = IsGoodHead f t
IsGood (Starting f) = IsFitFun f
IsGood (Within f l) = IsGoodWithin f l

-- what a move leaves, from what was read before it
abbrev pub Leaves : List ℕ → Move → Type 0
Leaves t (To spot) = (spot_text spot ≡ t) × IsGood spot
Leaves t (Closed f) = (fun_text f ≡ t) × IsFitFun f
Leaves t Refused = Unit {0}

if_leaves : (t : List ℕ) (b : Bool) (m n : Move) → (b ≡ true → Leaves t m) → Leaves t n → Leaves t (if b then m else n)
if_leaves t true m n h k = h refl
if_leaves t false m n h k = k

spelled-push : (is : List Instr) (i : Instr) → AreFit is → IsFit i → AreFit (is ++ i ∷ [])
spelled-push [] i a b = (b, tt)
spelled-push (j ∷ is) i a b = (a.0, spelled-push is i a.1 b)

pub pushed_spelled : (f : CodeFun) (i : Instr) → IsFitFun f → IsFit i → IsFitFun (pushed f i)
pushed_spelled f i h s = record { named = h.named; counts = h.counts; body = spelled-push f.body i h.body s }

-- Lines ----------------------------------------------------------------------------------------

-- a whole line behind what was read of the function
pub opened_more : (f : CodeFun) (i : Instr) → opened (pushed f i) ≡ opened f ++ instr_text i
opened_more f i = ap (λ t. head_text f ++ t) (body_text-push f.body i) ∙ sym (append_assoc (head_text f) (body_text f.body) (instr_text i))

-- a whole line with its instruction
line_whole : (f : CodeFun) (l : Line) (s : IsSpelledBy l.key l.words) → opened (pushed f s.instr) ≡ line_front f l ++ 10 ∷ []
line_whole f l s =
    opened_more f s.instr ∙ ap (λ ws. opened f ++ ((key_text (key_of s.instr) ++ spaced_text ws) ++ 10 ∷ [])) s.words
    ∙ ap (λ k. opened f ++ ((key_text k ++ spaced_text l.words) ++ 10 ∷ [])) s.key
    ∙ sym (append_assoc (opened f) (key_text l.key ++ spaced_text l.words) (10 ∷ []))

-- what the end of a line leaves
line_closed : (f : CodeFun) (l : Line) (g : ℕ) → IsFitFun f → IsGoodLine l → 10 ≡ g → may_end l.rest ≡ true → Leaves (line_front f l ++ g ∷ []) (To (Starting (pushed f (instruction_of l.key l.words))))
line_closed f l g h good gap ends =
    let s : IsSpelledBy l.key l.words = line_spells l good ends in
    subst (λ i. Leaves (line_front f l ++ g ∷ []) (To (Starting (pushed f i)))) (sym s.is)
    (line_whole f l s ∙ ap (λ b. line_front f l ++ b ∷ []) gap, pushed_spelled f s.instr h (spelled_fit l.key l.words s good.short))

line_leaves : (f : CodeFun) (l : Line) (g : ℕ) → IsFitFun f → IsGoodLine l → Leaves (line_front f l ++ g ∷ []) (line_next f l g)
line_leaves f l g h good =
    let t : List ℕ = line_front f l ++ g ∷ [] in
    let more : Bool = is_open (next_field l.rest) in
    let ends : Bool = may_end l.rest in
    let all : Move = To (Starting (pushed f (instruction_of l.key l.words))) in
    if_leaves t ((g == 32) && more) (To (Within f l)) (if (g == 10) && ends then all else Refused)
    (λ e.
    let gap : 32 ≡ g = sym (eqb-true g 32 (both-left (g == 32) more e)) in
    (ap (λ b. line_front f l ++ b ∷ []) gap, record { fun = h; line = good; more = both-right (g == 32) more e }))
    (if_leaves t ((g == 10) && ends) all Refused
    (λ e. line_closed f l g h good (sym (eqb-true g 10 (both-left (g == 10) ends e))) (both-right (g == 10) ends e))
    tt)

-- by the text that was read before
line_leaves_by : (t w : List ℕ) (f : CodeFun) (l : Line) (g : ℕ) → IsFitFun f → IsGoodLine l → line_front f l ≡ t ++ w → Leaves (t ++ (w ++ g ∷ [])) (line_next f l g)
line_leaves_by t w f l g h good e =
    subst (λ u. Leaves u (line_next f l g)) (ap (λ u. u ++ g ∷ []) e ∙ append_assoc t w (g ∷ [])) (line_leaves f l g h good)

pub zero_small : 0 < 2 ^ 64
zero_small = omega arith

-- Words and the bytes behind them ------------------------------------------------------------------

starting_leaves : (f : CodeFun) (w : List ℕ) (g : ℕ) (o : Option Key) → key_of_word w ≡ o → IsFitFun f → Leaves (opened f ++ (w ++ g ∷ [])) (start_move f g o)
starting_leaves f w g None e h = tt
starting_leaves f w g (Some k) e h = line_leaves_by (opened f) w f (first_line k) g h (first_good k) (ap (λ t. opened f ++ t) (append-nil (key_text k) ∙ key_told w k e))

closing_leaves : (f : CodeFun) (w : List ℕ) (g : ℕ) → w ≡ codes "end" → IsFitFun f → Leaves (opened f ++ (w ++ g ∷ [])) (end_move f g)
closing_leaves f w g is h =
    if_leaves (opened f ++ (w ++ g ∷ [])) (g == 10) (Closed f) Refused (λ e. (
      ap (λ b. opened f ++ (codes "end" ++ b ∷ [])) (sym (eqb-true g 10 e)) ∙ ap (λ v. opened f ++ (v ++ g ∷ [])) (sym is),
      h,
    )) tt

first_leaves : (f : CodeFun) (w : List ℕ) (g : ℕ) → IsFitFun f → Leaves (opened f ++ (w ++ g ∷ [])) (step (Starting f) w g)
first_leaves f w g h =
    if_leaves (opened f ++ (w ++ g ∷ [])) (pointwise nat_eq w (codes "end")) (end_move f g) (start_move f g (key_of_word w))
    (λ e. closing_leaves f w g (same_text w (codes "end") (sym e)) h) (starting_leaves f w g (key_of_word w) refl h)

-- one word more of a line
pub word_front_more : (f : CodeFun) (l : Line) (x : LineWord) → line_front f (after_word l x) ≡ (line_front f l ++ 32 ∷ []) ++ line_word_text x
word_front_more f l x =
    ap (λ t. opened f ++ (key_text l.key ++ t)) (spaced_text-push l.words x)
    ∙ ap (λ t. opened f ++ t) (sym (append_assoc (key_text l.key) (spaced_text l.words) (32 ∷ line_word_text x)))
    ∙ sym (append_assoc (opened f) (key_text l.key ++ spaced_text l.words) (32 ∷ line_word_text x))
    ∙ sym (append_assoc (line_front f l) (32 ∷ []) (line_word_text x))

within_leaves : (f : CodeFun) (l : Line) (w : List ℕ) (g : ℕ) (o : Option LineWord) → word_in (next_field l.rest) w ≡ o → IsGoodWithin f l
    → Leaves ((line_front f l ++ 32 ∷ []) ++ (w ++ g ∷ [])) (word_move f l g o)
within_leaves f l w g None e h = tt
within_leaves f l w g (Some x) e h =
    let told = word_told_in (next_field l.rest) w x e in
    line_leaves_by (line_front f l ++ 32 ∷ []) w f (after_word l x) g h.fun (word_follows l x h.line told.may told.short)
    (word_front_more f l x ∙ ap (λ t. (line_front f l ++ 32 ∷ []) ++ t) (sym told.text))

-- one count more
count_front : (f : CodeFun) (us : List LineWord) (n g : ℕ)
    → (codes "fun " ++ (f.name ++ spaced_text (us ++ Number n ∷ []))) ++ g ∷ [] ≡ ((codes "fun " ++ (f.name ++ spaced_text us)) ++ 32 ∷ []) ++ (decimal n ++ g ∷ [])
count_front f us n g =
    let front : List ℕ = codes "fun " ++ (f.name ++ spaced_text us) in
    ap (λ t. t ++ g ∷ []) (
    ap (λ t. codes "fun " ++ (f.name ++ t)) (spaced_text-push us (Number n))
    ∙ ap (λ t. codes "fun " ++ t) (sym (append_assoc f.name (spaced_text us) (32 ∷ decimal n)))
    ∙ sym (append_assoc (codes "fun ") (f.name ++ spaced_text us) (32 ∷ decimal n))
    ∙ sym (append_assoc front (32 ∷ []) (decimal n)))
    ∙ append_assoc (front ++ 32 ∷ []) (decimal n) (g ∷ [])

-- the first line whole
pub head_whole : (f : CodeFun) → f.body ≡ [] → opened f ≡ (codes "fun " ++ (f.name ++ spaced_text (counts f))) ++ 10 ∷ []
head_whole f none =
    ap (λ b. head_text f ++ body_text b) none ∙ append-nil (head_text f)
    ∙ sym (append_assoc (codes "fun ") (f.name ++ spaced_text (counts f)) (10 ∷ []))

heading_leaves : (f : CodeFun) (t : Turn) (w : List ℕ) (g : ℕ) (o : Option ℕ) → number_of_word w ≡ o → IsGoodHead f t
    → Leaves ((head_front f t ++ 32 ∷ []) ++ (w ++ g ∷ [])) (count_move f t g o)
heading_leaves f t w g None e h = tt
heading_leaves f First w g (Some n) e h =
    let told = number_told w n e in
    if_leaves ((head_front f First ++ 32 ∷ []) ++ (w ++ g ∷ [])) (g == 32) (To (Heading (record f { params = n }) Second)) Refused (λ k. (
      ap (λ b. (codes "fun " ++ (f.name ++ spaced_text (Number n ∷ []))) ++ b ∷ []) (sym (eqb-true g 32 k)) ∙ count_front f [] n g
          ∙ ap (λ v. (head_front f First ++ 32 ∷ []) ++ (v ++ g ∷ [])) (sym told.0),
      record { fun = record { named = h.fun.named; counts = (told.1, h.fun.counts.1, h.fun.counts.2); body = h.fun.body }; empty = h.empty },
    )) tt
heading_leaves f Second w g (Some n) e h =
    let told = number_told w n e in
    if_leaves ((head_front f Second ++ 32 ∷ []) ++ (w ++ g ∷ [])) (g == 32) (To (Heading (record f { results = n }) Third)) Refused (λ k. (
      ap (λ b. (codes "fun " ++ (f.name ++ spaced_text (Number f.params ∷ Number n ∷ []))) ++ b ∷ []) (sym (eqb-true g 32 k)) ∙ count_front f (Number f.params ∷ []) n g
          ∙ ap (λ v. (head_front f Second ++ 32 ∷ []) ++ (v ++ g ∷ [])) (sym told.0),
      record { fun = record { named = h.fun.named; counts = (h.fun.counts.0, told.1, h.fun.counts.2); body = h.fun.body }; empty = h.empty },
    )) tt
heading_leaves f Third w g (Some n) e h =
    let told = number_told w n e in
    let all : CodeFun = record f { slots = n } in
    if_leaves ((head_front f Third ++ 32 ∷ []) ++ (w ++ g ∷ [])) (g == 10) (To (Starting (record f { slots = n }))) Refused (λ k. (
      head_whole all h.empty
          ∙ ap (λ b. (codes "fun " ++ (f.name ++ spaced_text (Number f.params ∷ Number f.results ∷ Number n ∷ []))) ++ b ∷ []) (sym (eqb-true g 10 k))
          ∙ count_front f (Number f.params ∷ Number f.results ∷ []) n g
          ∙ ap (λ v. (head_front f Third ++ 32 ∷ []) ++ (v ++ g ∷ [])) (sym told.0),
      record { named = h.fun.named; counts = (h.fun.counts.0, h.fun.counts.1, told.1); body = h.fun.body },
    )) tt

-- the words of a name are a name
abbrev pub IsNamed : Spot → List ℕ → Type 0
IsNamed Naming w = (w ≡ []) ⊎ IsLower w
IsNamed spot w = Unit {0}

naming_lower : (w : List ℕ) → nat_lt 0 (length w) ≡ true → IsNamed Naming w → IsLower w
naming_lower w some h = elim h [ inl e ↦ absurd (cc (sym some ∙ ap (λ v. nat_lt 0 (length v)) e)) | inr l ↦ l ]

outside_leaves : (w : List ℕ) (g : ℕ) → Leaves (w ++ g ∷ []) (step Outside w g)
outside_leaves w g =
    if_leaves (w ++ g ∷ []) ((g == 32) && pointwise nat_eq w (codes "fun")) (To Naming) Refused (λ e. (
      ap (λ b. codes "fun" ++ b ∷ []) (sym (eqb-true g 32 (both-left (g == 32) (pointwise nat_eq w (codes "fun")) e))) ∙ ap (λ v. v ++ g ∷ []) (sym (same_text w (codes "fun") (sym (both-right (g == 32) (pointwise nat_eq w (codes "fun")) e)))),
      tt,
    )) tt

naming_leaves : (w : List ℕ) (g : ℕ) → IsNamed Naming w → Leaves (codes "fun " ++ (w ++ g ∷ [])) (step Naming w g)
naming_leaves w g h =
    if_leaves (codes "fun " ++ (w ++ g ∷ [])) ((g == 32) && nat_lt 0 (length w)) (To (Heading (function_of_name w) First)) Refused (λ e. (
      ap (λ b. (codes "fun " ++ (w ++ [])) ++ b ∷ []) (sym (eqb-true g 32 (both-left (g == 32) (nat_lt 0 (length w)) e)))
          ∙ append_assoc (codes "fun ") (w ++ []) (g ∷ []) ∙ ap (λ v. codes "fun " ++ (v ++ g ∷ [])) (append-nil w),
      record { fun = record { named = naming_lower w (both-right (g == 32) (nat_lt 0 (length w)) e) h; counts = (zero_small, zero_small, zero_small); body = tt }; empty = refl },
    )) tt

pub step_leaves : (spot : Spot) (w : List ℕ) (g : ℕ) → IsGood spot → IsNamed spot w → Leaves (spot_text spot ++ (w ++ g ∷ [])) (step spot w g)
step_leaves Outside w g h n = outside_leaves w g
step_leaves Naming w g h n = naming_leaves w g n
step_leaves (Heading f t) w g h n = heading_leaves f t w g (number_of_word w) refl h
step_leaves (Starting f) w g h n = first_leaves f w g h
step_leaves (Within f l) w g h n = within_leaves f l w g (word_in (next_field l.rest) w) refl h
