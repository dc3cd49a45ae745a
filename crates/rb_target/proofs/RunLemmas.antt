-- Every code text is read to its end.
use Rattle.std.proofs.Common.{◌≡◌, ℕ, ◌+◌, ◌<◌, ◌^◌, List, [], ◌∷◌, ◌++◌, length, nat_lt, true, false, ◌==◌, codes, Option, Some, None, All, refl, sym, ◌∙◌, ap, arith, append_assoc, append-nil, length-append}
use Rattle.std.specs.Fmt.{decimal}
use Rattle.std.proofs.lemmas.Grind.{common_steps}
use Rattle.std.proofs.lemmas.List.Elements.{All-head, All-tail}
use Rattle.rb_core.specs.WellNumbered.{is_small, is_word_byte}
use Rattle.rb_target.proofs.FieldLemmas.{in_open, number_decimal, word_in_text, Steps, decimal_steps, word_steps}
use Rattle.rb_target.proofs.LineLemmas.{whole, whole_next, Reads, reads}
use Rattle.rb_target.proofs.Names.{from_between, from_name_byte}
use Rattle.rb_target.specs.Text.{line_word_text, key_text, key_of, line_words, spaced_text, line, instr_text, head_text, body_text, fun_text, code_text}
use Rattle.rb_target.specs.Validity.{IsSmall, IsNameByte, IsLower}
use Rattle.rb_target.proofs.SpelledForms.{AreShort, IsFit, AreFit, IsFitFun, AreFitFuns}
use Rattle.rb_target.specs.inner.Fields.{number_of_word, is_open, next_field, may_end, first_line, after_word, instruction_of}
use Rattle.rb_target.specs.inner.Reading.{is_gap, function_of_name, line_next, count_move, step, is_some, goes_on, Progress, start, progress_behind, feed, then_feed, run}
use Rattle.rb_target.specs.declared.instr.Instr.{Instr}
use Rattle.rb_target.specs.declared.word.LineWord.{LineWord}
use Rattle.rb_target.specs.declared.word.LineWord.TheVariants.{Number}
use Rattle.rb_target.specs.declared.code.CodeFun.{CodeFun}
use Rattle.rb_target.specs.declared.word.Key.{Key}
use Rattle.rb_target.specs.declared.word.Key.TheVariants as key
use Rattle.rb_target.specs.declared.read.spot.Field.{Field}
use Rattle.rb_target.specs.declared.read.spot.Turn.{Turn}
use Rattle.rb_target.specs.declared.read.spot.Move.TheVariants.{To}
use Rattle.rb_target.specs.declared.read.spot.Turn.TheVariants.{First, Second, Third}
use Rattle.rb_target.specs.declared.read.spot.Line.{Line}
use Rattle.rb_target.specs.declared.read.spot.Spot.{Spot}
use Rattle.rb_target.specs.declared.read.spot.Spot.TheVariants.{Outside, Naming, Heading, Starting, Within}

abbrev pub at_spot : List CodeFun → Spot → List ℕ → Progress
at_spot funs spot w = record { funs = funs; spot = spot; word = w }

-- what has been refused stays so
pub run_none : (bs : List ℕ) → run None bs ≡ None
run_none [] = refl
run_none (b ∷ bs) = run_none bs

pub run_append : (o : Option Progress) (xs ys : List ℕ) → run o (xs ++ ys) ≡ run (run o xs) ys
run_append o [] ys = refl
run_append o (x ∷ xs) ys = run_append (then_feed o x) xs ys

-- the bytes of a word
steps_run : (funs : List CodeFun) (spot : Spot) (p xs rest : List ℕ) → Steps (goes_on spot) p xs → run (Some (at_spot funs spot p)) (xs ++ rest) ≡ run (Some (at_spot funs spot (p ++ xs))) rest
steps_run funs spot p [] rest s = ap (λ w. run (Some (at_spot funs spot w)) rest) (sym (append-nil p))
steps_run funs spot p (b ∷ xs) rest s =
    let one : feed (at_spot funs spot p) b ≡ Some (at_spot funs spot (p ++ b ∷ [])) = rw (s.0, s.1) refl in
    ap (λ o. run o (xs ++ rest)) one ∙ steps_run funs spot (p ++ b ∷ []) xs rest s.2 ∙ ap (λ w. run (Some (at_spot funs spot w)) rest) (append_assoc p (b ∷ []) xs)

-- a word and the byte behind it
word_run : (funs : List CodeFun) (spot : Spot) (w : List ℕ) (g : ℕ) (rest : List ℕ) → Steps (goes_on spot) [] w → is_gap g ≡ true → run (Some (at_spot funs spot [])) (w ++ g ∷ rest) ≡ run (progress_behind funs (step spot w g)) rest
word_run funs spot w g rest s h = steps_run funs spot [] w (g ∷ rest) s ∙ ap (λ o. run o rest) gap
  where
    gap : feed (at_spot funs spot w) g ≡ progress_behind funs (step spot w g)
    gap = rw h refl

-- Lines ----------------------------------------------------------------------------------------

abbrev gap_before : List LineWord → ℕ
gap_before [] = 10
gap_before (w ∷ ws) = 32

abbrev behind_gap : List LineWord → List ℕ → List ℕ
behind_gap [] rest = rest
behind_gap (w ∷ ws) rest = line_word_text w ++ (spaced_text ws ++ 10 ∷ rest)

gap_split : (ws : List LineWord) (rest : List ℕ) → spaced_text ws ++ 10 ∷ rest ≡ gap_before ws ∷ behind_gap ws rest
gap_split [] rest = refl
gap_split (w ∷ ws) rest = ap (λ t. 32 ∷ t) (append_assoc (line_word_text w) (spaced_text ws) (10 ∷ rest))

gap_is : (ws : List LineWord) → is_gap (gap_before ws) ≡ true
gap_is [] = refl
gap_is (w ∷ ws) = refl

abbrev pub pushed : CodeFun → Instr → CodeFun
pushed f i = record f { body = f.body ++ i ∷ [] }

line_ends : (f : CodeFun) (l : Line) → may_end l.rest ≡ true → line_next f l 10 ≡ To (Starting (pushed f (instruction_of l.key l.words)))
line_ends f l h = rw h refl

line_goes_on : (f : CodeFun) (l : Line) → is_open (next_field l.rest) ≡ true → line_next f l 32 ≡ To (Within f l)
line_goes_on f l h = rw h refl

-- the words ws, with which the line is whole and spells j, and the bytes behind it
line_run : (funs : List CodeFun) (f : CodeFun) (l : Line) (ws : List LineWord) (j : Instr) (rest : List ℕ) → whole l.rest ws ≡ true → instruction_of l.key (l.words ++ ws) ≡ j → AreShort ws
    → run (progress_behind funs (line_next f l (gap_before ws))) (behind_gap ws rest) ≡ run (Some (at_spot funs (Starting (pushed f j)) [])) rest
line_run funs f l [] j rest h is short =
    ap (λ m. run (progress_behind funs m) rest) (line_ends f l h)
    ∙ ap (λ i. run (Some (at_spot funs (Starting (pushed f i)) [])) rest) (ap (instruction_of l.key) (sym (append-nil l.words)) ∙ is)
line_run funs f l (w ∷ ws) j rest h is short =
    let next = whole_next l.rest w ws h in
    let field : Field = next_field l.rest in
    let told : step (Within f l) (line_word_text w) (gap_before ws) ≡ line_next f (after_word l w) (gap_before ws) = rw (word_in_text field w next.0 short.0) refl in
    ap (λ m. run (progress_behind funs m) (behind_gap (w ∷ ws) rest)) (line_goes_on f l (in_open field w next.0))
    ∙ ap (λ r. run (Some (at_spot funs (Within f l) [])) (line_word_text w ++ r)) (gap_split ws rest)
    ∙ word_run funs (Within f l) (line_word_text w) (gap_before ws) (behind_gap ws rest) (word_steps field w next.0 short.0) (gap_is ws)
    ∙ ap (λ m. run (progress_behind funs m) (behind_gap ws rest)) told
    ∙ line_run funs f (after_word l w) ws j rest next.1 (ap (instruction_of l.key) (append_assoc l.words (w ∷ []) ws) ∙ is) short.1

-- a line's words and end, with what follows, from its first word on
line_split : (first : List ℕ) (ws : List LineWord) (rest : List ℕ) → line first ws ++ rest ≡ first ++ (gap_before ws ∷ behind_gap ws rest)
line_split first ws rest =
    append_assoc (first ++ spaced_text ws) (10 ∷ []) rest ∙ append_assoc first (spaced_text ws) (10 ∷ rest) ∙ ap (λ t. first ++ t) (gap_split ws rest)

abbrev Runs : List CodeFun → CodeFun → Instr → List ℕ → Type 0
Runs funs f j rest = run (Some (at_spot funs (Starting f) [])) (instr_text j ++ rest) ≡ run (Some (at_spot funs (Starting (pushed f j)) [])) rest

module _ (funs : List CodeFun) (f : CodeFun) (rest : List ℕ) where
  key_steps : (k : Key) → Steps (goes_on (Starting f)) [] (key_text k)
  key_steps key.Const = (refl, refl, (refl, refl, (refl, refl, (refl, refl, (refl, refl, tt)))))
  key_steps key.Copy = (refl, refl, (refl, refl, (refl, refl, (refl, refl, tt))))
  key_steps key.Alu = (refl, refl, (refl, refl, (refl, refl, tt)))
  key_steps key.Take = (refl, refl, (refl, refl, (refl, refl, (refl, refl, tt))))
  key_steps key.Put = (refl, refl, (refl, refl, (refl, refl, tt)))
  key_steps key.Load = (refl, refl, (refl, refl, (refl, refl, (refl, refl, tt))))
  key_steps key.Store = (refl, refl, (refl, refl, (refl, refl, (refl, refl, (refl, refl, tt)))))
  key_steps key.Place = (refl, refl, (refl, refl, (refl, refl, (refl, refl, (refl, refl, tt)))))
  key_steps key.Jump = (refl, refl, (refl, refl, (refl, refl, (refl, refl, tt))))
  key_steps key.Switch = (refl, refl, (refl, refl, (refl, refl, (refl, refl, (refl, refl, (refl, refl, tt))))))
  key_steps key.Call = (refl, refl, (refl, refl, (refl, refl, (refl, refl, tt))))
  key_steps key.Return = (refl, refl, (refl, refl, (refl, refl, (refl, refl, (refl, refl, (refl, refl, tt))))))

  key_next : (k : Key) (g : ℕ) → step (Starting f) (key_text k) g ≡ line_next f (first_line k) g
  key_next key.Const g = refl
  key_next key.Copy g = refl
  key_next key.Alu g = refl
  key_next key.Take g = refl
  key_next key.Put g = refl
  key_next key.Load g = refl
  key_next key.Store g = refl
  key_next key.Place g = refl
  key_next key.Jump g = refl
  key_next key.Switch g = refl
  key_next key.Call g = refl
  key_next key.Return g = refl

  key_run : (k : Key) (j : Instr) → Reads k j → AreShort (line_words j) → Runs funs f j rest
  key_run k j r short =
      ap (λ b. run (Some (at_spot funs (Starting f) [])) (line (key_text b) (line_words j) ++ rest)) r.key
      ∙ ap (λ r. run (Some (at_spot funs (Starting f) [])) r) (line_split (key_text k) (line_words j) rest)
      ∙ word_run funs (Starting f) (key_text k) (gap_before (line_words j)) (behind_gap (line_words j) rest) (key_steps k) (gap_is (line_words j))
      ∙ ap (λ m. run (progress_behind funs m) (behind_gap (line_words j) rest)) (key_next k (gap_before (line_words j)))
      ∙ line_run funs f (first_line k) (line_words j) j rest r.whole r.is short

  instr_run : (j : Instr) → IsFit j → Runs funs f j rest
  instr_run j h = key_run (key_of j) j (reads j h.bounded) h.short

-- Functions ------------------------------------------------------------------------------------

abbrev with_body : CodeFun → List Instr → CodeFun
with_body f is = record f { body = f.body ++ is }

body_run : (funs : List CodeFun) (f : CodeFun) (is : List Instr) (rest : List ℕ) → AreFit is
    → run (Some (at_spot funs (Starting f) [])) (body_text is ++ rest) ≡ run (Some (at_spot funs (Starting (with_body f is)) [])) rest
body_run funs f [] rest h = ap (λ (is : List Instr). run (Some (at_spot funs (Starting (record f { body = is })) [])) rest) (sym (append-nil f.body))
body_run funs f (i ∷ is) rest h =
    ap (λ r. run (Some (at_spot funs (Starting f) [])) r) (append_assoc (instr_text i) (body_text is) rest)
    ∙ instr_run funs f (body_text is ++ rest) i h.0
    ∙ body_run funs (pushed f i) is rest h.1
    ∙ ap (λ (js : List Instr). run (Some (at_spot funs (Starting (record f { body = js })) [])) rest) (append_assoc f.body (i ∷ []) is)

count_steps : (f : CodeFun) (t : Turn) (n : ℕ) → n < 2 ^ 64 → Steps (goes_on (Heading f t)) [] (decimal n)
count_steps f t n small =
    decimal_steps (λ w b. is_some (number_of_word w)) (λ m. true) (λ m b g s. rw (number_decimal m s) refl) (λ m g big. refl) n n (omega arith) small refl

small_steps : (b : ℕ) → IsSmall b → (is_gap b ≡ false) × (is_small b ≡ true)
small_steps b h = (grind (arith, common_steps), from_between 97 122 b h.0 h.1)

name_byte_steps : (b : ℕ) → IsNameByte b → (is_gap b ≡ false) × (is_word_byte b ≡ true)
name_byte_steps b h = (grind (arith, common_steps), from_name_byte b h)

long_name : (p : List ℕ) (b : ℕ) → 0 < length p → (length (p ++ b ∷ []) == 1) ≡ false
long_name p b h = let e : length (p ++ b ∷ []) ≡ length p + 1 = length-append p (b ∷ []) in grind (arith, common_steps)

long_more : (p : List ℕ) (b : ℕ) → 0 < length p → 0 < length (p ++ b ∷ [])
long_more p b h = let e : length (p ++ b ∷ []) ≡ length p + 1 = length-append p (b ∷ []) in omega (arith, e)

name_steps : (p bs : List ℕ) → 0 < length p → All IsNameByte bs → Steps (goes_on Naming) p bs
name_steps p [] some h = tt
name_steps p (b ∷ bs) some h =
    let one = name_byte_steps b (All-head IsNameByte b bs h) in
    (one.0, rw (long_name p b some) one.1, name_steps (p ++ b ∷ []) bs (long_more p b some) (All-tail IsNameByte b bs h))

lower_steps : (name : List ℕ) → IsLower name → Steps (goes_on Naming) [] name
lower_steps [] h = absurd h
lower_steps (b ∷ bs) h = let one = small_steps b h.0 in (one.0, one.1, name_steps (b ∷ []) bs (omega arith) h.1)

pub lower_some : (name : List ℕ) → IsLower name → nat_lt 0 (length name) ≡ true
lower_some [] h = absurd h
lower_some (b ∷ bs) h = grind (arith, common_steps)

abbrev pub counts : CodeFun → List LineWord
counts f = Number f.params ∷ Number f.results ∷ Number f.slots ∷ []

head_run : (funs : List CodeFun) (f : CodeFun) (rest : List ℕ) → IsFitFun f
    → run (Some (at_spot funs Outside [])) (head_text f ++ rest) ≡ run (Some (at_spot funs (Starting (record f { body = [] })) [])) rest
head_run funs f rest h =
    let r3 : List ℕ = behind_gap (counts f) rest in
    let f1 : CodeFun = function_of_name f.name in
    let f2 : CodeFun = record f1 { params = f.params } in
    let f3 : CodeFun = record f2 { results = f.results } in
    ap (λ r. run (Some (at_spot funs Outside [])) r) (append_assoc (codes "fun ") (line f.name (counts f)) rest ∙ ap (λ r. codes "fun " ++ r) (line_split f.name (counts f) rest))
    ∙ word_run funs Outside (codes "fun") 32 (f.name ++ 32 ∷ r3) (refl, refl, (refl, refl, (refl, refl, tt))) refl
    ∙ word_run funs Naming f.name 32 r3 (lower_steps f.name h.named) refl
    ∙ ap (λ m. run (progress_behind funs m) r3) (named_next h.named)
    ∙ ap (λ r. run (Some (at_spot funs (Heading f1 First) [])) (decimal f.params ++ r)) (gap_split (Number f.results ∷ Number f.slots ∷ []) rest)
    ∙ word_run funs (Heading f1 First) (decimal f.params) 32 (behind_gap (Number f.results ∷ Number f.slots ∷ []) rest) (count_steps f1 First f.params h.counts.0) refl
    ∙ ap (λ m. run (progress_behind funs m) (behind_gap (Number f.results ∷ Number f.slots ∷ []) rest)) (count_next f1 First 32 f.params h.counts.0)
    ∙ ap (λ r. run (Some (at_spot funs (Heading f2 Second) [])) (decimal f.results ++ r)) (gap_split (Number f.slots ∷ []) rest)
    ∙ word_run funs (Heading f2 Second) (decimal f.results) 32 (behind_gap (Number f.slots ∷ []) rest) (count_steps f2 Second f.results h.counts.1) refl
    ∙ ap (λ m. run (progress_behind funs m) (behind_gap (Number f.slots ∷ []) rest)) (count_next f2 Second 32 f.results h.counts.1)
    ∙ word_run funs (Heading f3 Third) (decimal f.slots) 10 rest (count_steps f3 Third f.slots h.counts.2) refl
    ∙ ap (λ m. run (progress_behind funs m) rest) (count_next f3 Third 10 f.slots h.counts.2)
  where
    named_next : IsLower f.name → step Naming f.name 32 ≡ To (Heading (function_of_name f.name) First)
    named_next low = rw (lower_some f.name low) refl

    count_next : (g : CodeFun) (t : Turn) (b n : ℕ) → n < 2 ^ 64 → step (Heading g t) (decimal n) b ≡ count_move g t b (Some n)
    count_next g t b n small = ap (count_move g t b) (number_decimal n small)

fun_run : (funs : List CodeFun) (f : CodeFun) (rest : List ℕ) → IsFitFun f
    → run (Some (at_spot funs Outside [])) (fun_text f ++ rest) ≡ run (Some (at_spot (funs ++ f ∷ []) Outside [])) rest
fun_run funs f rest h =
    let end : List ℕ = line (codes "end") [] in
    ap (λ r. run (Some (at_spot funs Outside [])) r) (append_assoc (head_text f ++ body_text f.body) end rest ∙ append_assoc (head_text f) (body_text f.body) (end ++ rest))
    ∙ head_run funs f (body_text f.body ++ (end ++ rest)) h
    ∙ body_run funs (record f { body = [] }) f.body (end ++ rest) h.body
    ∙ word_run funs (Starting f) (codes "end") 10 rest (refl, refl, (refl, refl, (refl, refl, tt))) refl

code_run : (done fs : List CodeFun) → AreFitFuns fs → run (Some (at_spot done Outside [])) (code_text fs) ≡ Some (at_spot (done ++ fs) Outside [])
code_run done [] h = ap (λ gs. Some (at_spot gs Outside [])) (sym (append-nil done))
code_run done (f ∷ fs) h =
    fun_run done f (code_text fs) h.0 ∙ code_run (done ++ f ∷ []) fs h.1 ∙ ap (λ gs. Some (at_spot gs Outside [])) (append_assoc done (f ∷ []) fs)

-- every code text is read
pub reads_code : (fs : List CodeFun) → AreFitFuns fs → run (Some start) (code_text fs) ≡ Some (at_spot fs Outside [])
reads_code fs h = code_run [] fs h
