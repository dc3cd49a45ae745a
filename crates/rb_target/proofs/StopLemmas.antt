-- Where reading stops, no code text goes on.
use Rattle.std.proofs.Common.{◌≡◌, ℕ, suc, ◌+◌, ◌<◌, ◌≤◌, List, [], ◌∷◌, ◌++◌, length, take, drop, get_or, nat_eq, nat_lt, Bool, true, false, ◌||◌, ◌&&◌, ◌==◌, ◌⊎◌, inl, inr, if◌then◌else◌, codes, Option, Some, None, refl, sym, ◌∙◌, ap, subst, arith, append_assoc, append-nil, length-append}
use Rattle.std.specs.List.{list_any, starts_with}
use Rattle.std.proofs.lemmas.Grind.{common_steps}
use Rattle.std.proofs.lemmas.Option.{same_Some}
use Rattle.std.proofs.lemmas.List.{take_more, take_all, take-append-drop}
use Rattle.std.proofs.lemmas.List.Elements.{All-append, All-cons, All-nil}
use Rattle.rb_core.specs.Stopping.{BeginsSome}
use Rattle.rb_core.specs.WellNumbered.{is_word_byte}
use Rattle.rb_target.proofs.Names.{between, name_byte}
use Rattle.rb_target.proofs.Texts.{code_text-push}
use Rattle.rb_target.proofs.FieldLemmas.{word_in_text, any_told, IsWordFront, word_front_told, starts_rest}
use Rattle.rb_target.proofs.LineLemmas.{short-append, IsSpelledBy, spelled_fit, IsGoodLine, word_follows, ones_to_come, Completes, completes, IsNext, next_word, closed_ends}
use Rattle.rb_target.proofs.RunLemmas.{at_spot, pushed, counts, run_none, run_append, reads_code, lower_some}
use Rattle.rb_target.proofs.FrontLemmas.{opened, line_front, head_front, spot_text, IsGoodHead, IsGoodWithin, IsGood, Leaves, pushed_spelled, opened_more, word_front_more, head_whole, IsNamed, step_leaves, zero_small}
use Rattle.rb_target.specs.Text.{line_word_text, key_text, key_of, spaced_text, line, fun_text, code_text}
use Rattle.rb_target.specs.Validity.{IsNameByte, IsLower}
use Rattle.rb_target.specs.Spelled.{AreSpelled}
use Rattle.rb_target.specs.Stopping.{IsCode, StopsAt, IsTextOf}
use Rattle.rb_target.proofs.SpelledForms.{IsFitFun, AreFitFuns, funs_fit, fit_funs}
use Rattle.rb_target.specs.inner.Fields.{number_of_word, is_open, is_word_front, keys, next_field, after_word}
use Rattle.rb_target.specs.inner.Reading.{is_gap, function_of_name, line_next, word_move, count_move, step, is_some, goes_on, Progress, start, progress_behind, feed, run, is_outside, is_done}
use Rattle.rb_target.specs.declared.word.LineWord.{LineWord}
use Rattle.rb_target.specs.declared.word.LineWord.TheVariants.{Number}
use Rattle.rb_target.specs.declared.code.CodeFun.{CodeFun}
use Rattle.rb_target.specs.declared.word.Key.{Key}
use Rattle.rb_target.specs.declared.word.Key.TheVariants as key
use Rattle.rb_target.specs.declared.read.spot.Turn.{Turn}
use Rattle.rb_target.specs.declared.read.spot.Turn.TheVariants.{First, Second, Third}
use Rattle.rb_target.specs.declared.read.spot.Line.{Line}
use Rattle.rb_target.specs.declared.read.spot.Spot.{Spot}
use Rattle.rb_target.specs.declared.read.spot.Spot.TheVariants.{Outside, Naming, Heading, Starting, Within}
use Rattle.rb_target.specs.declared.read.spot.Move.{Move}
use Rattle.rb_target.specs.declared.read.spot.Move.TheVariants.{To, Closed, Refused}

-- Every front can be completed -------------------------------------------------------------------

-- a function's text goes on so
record Goes (t : List ℕ) : Type 0 where
  fun : CodeFun
  more : List ℕ
  spelled : IsFitFun fun
  is : t ++ more ≡ fun_text fun

abbrev ender : List ℕ
ender = line (codes "end") []

spaced_text-append : (us vs : List LineWord) → spaced_text (us ++ vs) ≡ spaced_text us ++ spaced_text vs
spaced_text-append [] vs = refl
spaced_text-append (u ∷ us) vs = ap (λ t. 32 ∷ line_word_text u ++ t) (spaced_text-append us vs) ∙ sym (append_assoc (32 ∷ line_word_text u) (spaced_text us) (spaced_text vs))

-- a line's words and end, apart
line_parts : (a k s m e : List ℕ) → a ++ ((k ++ (s ++ m)) ++ e) ≡ (a ++ (k ++ s)) ++ (m ++ e)
line_parts a k s m e =
    ap (λ t. a ++ (t ++ e)) (sym (append_assoc k s m)) ∙ ap (λ t. a ++ t) (append_assoc (k ++ s) m e) ∙ sym (append_assoc a (k ++ s) (m ++ e))

line_goes : (f : CodeFun) (l : Line) → IsFitFun f → IsGoodLine l → Goes (line_front f l)
line_goes f l h good =
    let c : Completes l = completes l good in
    let s : IsSpelledBy l.key (l.words ++ c.more) = c.spelled in
    let whole : opened (pushed f s.instr) ≡ line_front f l ++ (spaced_text c.more ++ 10 ∷ []) =
    opened_more f s.instr ∙ ap (λ ws. opened f ++ ((key_text (key_of s.instr) ++ spaced_text ws) ++ 10 ∷ [])) s.words
    ∙ ap (λ t. opened f ++ ((key_text (key_of s.instr) ++ t) ++ 10 ∷ [])) (spaced_text-append l.words c.more)
    ∙ ap (λ k. opened f ++ ((key_text k ++ (spaced_text l.words ++ spaced_text c.more)) ++ 10 ∷ [])) s.key
    ∙ line_parts (opened f) (key_text l.key) (spaced_text l.words) (spaced_text c.more) (10 ∷ []) in
    record {
      fun = pushed f s.instr;
      more = (spaced_text c.more ++ 10 ∷ []) ++ ender;
      spelled = pushed_spelled f s.instr h (spelled_fit l.key (l.words ++ c.more) s (short-append l.words c.more good.short c.short));
      is = sym (append_assoc (line_front f l) (spaced_text c.more ++ 10 ∷ []) ender) ∙ ap (λ t. t ++ ender) (sym whole);
    }

-- what a longer text goes on with
goes_before : (t w : List ℕ) → Goes (t ++ w) → Goes t
goes_before t w g = record { fun = g.fun; more = w ++ g.more; spelled = g.spelled; is = sym (append_assoc t w g.more) ∙ g.is }

within_goes : (f : CodeFun) (l : Line) → IsGoodWithin f l → Goes (line_front f l ++ 32 ∷ [])
within_goes f l h =
    let next : IsNext (next_field l.rest) = next_word l.rest (ones_to_come l h.line) h.more in
    goes_before (line_front f l ++ 32 ∷ []) (line_word_text next.word)
    (subst Goes (word_front_more f l next.word) (line_goes f (after_word l next.word) h.fun (word_follows l next.word h.line next.may next.short)))

head_parts : (a b u r e : List ℕ) → (a ++ (b ++ (u ++ (32 ∷ r)))) ++ e ≡ ((a ++ (b ++ u)) ++ 32 ∷ []) ++ (r ++ e)
head_parts a b u r e =
    ap (λ t. (a ++ t) ++ e) (sym (append_assoc b u (32 ∷ r))) ∙ ap (λ t. t ++ e) (sym (append_assoc a (b ++ u) (32 ∷ r)))
    ∙ append_assoc (a ++ (b ++ u)) (32 ∷ r) e ∙ sym (append_assoc (a ++ (b ++ u)) (32 ∷ []) (r ++ e))

head_goes : (f : CodeFun) (us : List LineWord) (v : LineWord) (vs : List LineWord) → IsFitFun f → f.body ≡ [] → us ++ v ∷ vs ≡ counts f
    → Goes ((codes "fun " ++ (f.name ++ spaced_text us)) ++ 32 ∷ [])
head_goes f us v vs h none e =
    let front : List ℕ = (codes "fun " ++ (f.name ++ spaced_text us)) ++ 32 ∷ [] in
    let rest : List ℕ = line_word_text v ++ spaced_text vs in
    let all : opened f ≡ front ++ (rest ++ 10 ∷ []) =
    head_whole f none ∙ ap (λ t. (codes "fun " ++ (f.name ++ t)) ++ 10 ∷ []) (ap spaced_text (sym e) ∙ spaced_text-append us (v ∷ vs))
    ∙ head_parts (codes "fun ") f.name (spaced_text us) rest (10 ∷ []) in
    record { fun = f; more = (rest ++ 10 ∷ []) ++ ender; spelled = h; is = sym (append_assoc front (rest ++ 10 ∷ []) ender) ∙ ap (λ t. t ++ ender) (sym all) }

heading_goes : (f : CodeFun) (t : Turn) → IsGoodHead f t → Goes (head_front f t ++ 32 ∷ [])
heading_goes f First h = head_goes f [] (Number f.params) (Number f.results ∷ Number f.slots ∷ []) h.fun h.empty refl
heading_goes f Second h = head_goes f (Number f.params ∷ []) (Number f.results) (Number f.slots ∷ []) h.fun h.empty refl
heading_goes f Third h = head_goes f (Number f.params ∷ Number f.results ∷ []) (Number f.slots) [] h.fun h.empty refl

-- the function `t` without counts and instructions
abbrev plain_fun : CodeFun
plain_fun = function_of_name (116 ∷ [])

plain_spelled : IsFitFun plain_fun
plain_spelled = record { named = ((omega arith, omega arith), All-nil IsNameByte); counts = (zero_small, zero_small, zero_small); body = tt }

spot_goes : (spot : Spot) → IsGood spot → Goes (spot_text spot)
spot_goes Outside h = record { fun = plain_fun; more = fun_text plain_fun; spelled = plain_spelled; is = refl }
spot_goes Naming h = record { fun = plain_fun; more = (line (116 ∷ []) (counts plain_fun) ++ []) ++ ender; spelled = plain_spelled; is = refl }
spot_goes (Heading f t) h = heading_goes f t h
spot_goes (Starting f) h = record { fun = f; more = ender; spelled = h; is = refl }
spot_goes (Within f l) h = within_goes f l h

-- Fronts of words --------------------------------------------------------------------------------

abbrev Moves : Move → Type 0
Moves Refused = ⊥
Moves m = Unit {0}

move_goes : (t : List ℕ) (m : Move) → Leaves t m → Moves m → Goes t
move_goes t (To spot) l m = subst Goes l.0 (spot_goes spot l.1)
move_goes t (Closed f) l m = record { fun = f; more = []; spelled = l.1; is = append-nil t ∙ sym l.0 }
move_goes t Refused l m = absurd m

-- the front of a word that some byte may follow
record CanEnd (spot : Spot) (w : List ℕ) : Type 0 where
  rest : List ℕ
  gap : ℕ
  moves : Moves (step spot (w ++ rest) gap)

abbrev IsGoodWord : Spot → List ℕ → Type 0
IsGoodWord Naming w = (w ≡ []) ⊎ IsLower w
IsGoodWord spot w = (w ≡ []) ⊎ CanEnd spot w

key_moves : (f : CodeFun) (k : Key) → Moves (step (Starting f) (key_text k) 32)
key_moves f key.Const = tt
key_moves f key.Copy = tt
key_moves f key.Alu = tt
key_moves f key.Take = tt
key_moves f key.Put = tt
key_moves f key.Load = tt
key_moves f key.Store = tt
key_moves f key.Place = tt
key_moves f key.Jump = tt
key_moves f key.Switch = tt
key_moves f key.Call = tt
key_moves f key.Return = tt

can_end : (spot : Spot) (w whole rest : List ℕ) (gap : ℕ) → w ++ rest ≡ whole → Moves (step spot whole gap) → CanEnd spot w
can_end spot w whole rest gap e m = record { rest = rest; gap = gap; moves = subst (λ u. Moves (step spot u gap)) (sym e) m }

starting_can_end : (f : CodeFun) (q : List ℕ) → (starts_with nat_eq (codes "end") q || list_any (λ k. starts_with nat_eq (key_text k) q) keys) ≡ true → CanEnd (Starting f) q
starting_can_end f q h = elim (starts_with nat_eq (codes "end") q) as (λ (b : Bool). starts_with nat_eq (codes "end") q ≡ b → (b || list_any (λ k. starts_with nat_eq (key_text k) q) keys) ≡ true → CanEnd (Starting f) q) [
  | true ↦ λ e g. can_end (Starting f) q (codes "end") (drop (length q) (codes "end")) 10 (starts_rest (codes "end") q e) tt
  | false ↦ λ e g.
      let k = any_told (λ k. starts_with nat_eq (key_text k) q) keys g in
      can_end (Starting f) q (key_text k.0) (drop (length q) (key_text k.0)) 32 (starts_rest (key_text k.0) q k.1) (key_moves f k.0)
] refl h

heading_can_end : (f : CodeFun) (t : Turn) (q : List ℕ) (o : Option ℕ) → number_of_word q ≡ o → is_some o ≡ true → CanEnd (Heading f t) q
heading_can_end f t q None e h = absurd (cc h)
heading_can_end f First q (Some n) e h = can_end (Heading f First) q q [] 32 (append-nil q) (subst (λ o. Moves (count_move f First 32 o)) (sym e) tt)
heading_can_end f Second q (Some n) e h = can_end (Heading f Second) q q [] 32 (append-nil q) (subst (λ o. Moves (count_move f Second 32 o)) (sym e) tt)
heading_can_end f Third q (Some n) e h = can_end (Heading f Third) q q [] 10 (append-nil q) (subst (λ o. Moves (count_move f Third 10 o)) (sym e) tt)

line_gap : (f : CodeFun) (l : Line) → IsGoodLine l → (g : ℕ) × Moves (line_next f l g)
line_gap f l good = elim (is_open (next_field l.rest)) as (λ (b : Bool). is_open (next_field l.rest) ≡ b → (g : ℕ) × Moves (line_next f l g)) [
  | true ↦ λ e. (32, rw e tt)
  | false ↦ λ e. (10, rw (closed_ends l.rest (ones_to_come l good) e) tt)
] refl

within_can_end : (f : CodeFun) (l : Line) (q : List ℕ) → IsGoodLine l → is_word_front (next_field l.rest) q ≡ true → CanEnd (Within f l) q
within_can_end f l q good h =
    let front : IsWordFront (next_field l.rest) q = word_front_told (next_field l.rest) q h in
    let gap = line_gap f (after_word l front.word) (word_follows l front.word good front.may front.short) in
    can_end (Within f l) q (line_word_text front.word) front.rest gap.0 front.is
    (subst (λ o. Moves (word_move f l gap.0 o)) (sym (word_in_text (next_field l.rest) front.word front.may front.short)) gap.1)

long_word : (x : ℕ) (bs : List ℕ) (b : ℕ) → (length (x ∷ bs ++ b ∷ []) == 1) ≡ false
long_word x bs b = let e : length (bs ++ b ∷ []) ≡ length bs + 1 = length-append bs (b ∷ []) in grind (arith, common_steps)

lower_more : (w : List ℕ) (b : ℕ) → IsLower w → goes_on Naming (w ++ b ∷ []) b ≡ true → IsLower (w ++ b ∷ [])
lower_more [] b h g = absurd h
lower_more (x ∷ bs) b h g =
    let byte : is_word_byte b ≡ true = rw (long_word x bs b) at g in
    (h.0, All-append IsNameByte bs (b ∷ []) h.1 (All-cons IsNameByte b [] (name_byte b byte) (All-nil IsNameByte)))

naming_word : (w : List ℕ) (b : ℕ) → IsGoodWord Naming w → goes_on Naming (w ++ b ∷ []) b ≡ true → IsGoodWord Naming (w ++ b ∷ [])
naming_word w b h g = elim h [
  | inl e ↦ let first : goes_on Naming (b ∷ []) b ≡ true = subst (λ v. goes_on Naming (v ++ b ∷ []) b ≡ true) e g in
      inr (subst (λ v. IsLower (v ++ b ∷ [])) (sym e) (between 97 122 b first, All-nil IsNameByte))
  | inr l ↦ inr (lower_more w b l g)
]

word_more : (spot : Spot) (w : List ℕ) (b : ℕ) → IsGood spot → IsGoodWord spot w → goes_on spot (w ++ b ∷ []) b ≡ true → IsGoodWord spot (w ++ b ∷ [])
word_more Outside w b h k g = inr (can_end Outside (w ++ b ∷ []) (codes "fun") (drop (length (w ++ b ∷ [])) (codes "fun")) 32 (starts_rest (codes "fun") (w ++ b ∷ []) g) tt)
word_more Naming w b h k g = naming_word w b k g
word_more (Heading f t) w b h k g = inr (heading_can_end f t (w ++ b ∷ []) (number_of_word (w ++ b ∷ [])) refl g)
word_more (Starting f) w b h k g = inr (starting_can_end f (w ++ b ∷ []) g)
word_more (Within f l) w b h k g = inr (within_can_end f l (w ++ b ∷ []) h.line g)

named_from : (spot : Spot) (w : List ℕ) → IsGoodWord spot w → IsNamed spot w
named_from Naming w h = h
named_from spot w h = tt

naming_moves : (w : List ℕ) → IsLower w → Moves (step Naming w 32)
naming_moves w l = rw (lower_some w l) tt

-- a front of a word, from the spot on
front_goes : (spot : Spot) (w : List ℕ) → IsGood spot → IsNamed spot w → CanEnd spot w → ((v : List ℕ) → IsNamed spot v) → Goes (spot_text spot ++ w)
front_goes spot w h n c any =
    goes_before (spot_text spot ++ w) (c.rest ++ c.gap ∷ [])
    (subst Goes (ap (λ t. spot_text spot ++ t) (append_assoc w c.rest (c.gap ∷ [])) ∙ sym (append_assoc (spot_text spot) w (c.rest ++ c.gap ∷ [])))
    (move_goes (spot_text spot ++ ((w ++ c.rest) ++ c.gap ∷ [])) (step spot (w ++ c.rest) c.gap) (step_leaves spot (w ++ c.rest) c.gap h (any (w ++ c.rest))) c.moves))

nothing_more : (spot : Spot) (w : List ℕ) → IsGood spot → w ≡ [] → Goes (spot_text spot ++ w)
nothing_more spot w h e = subst (λ v. Goes (spot_text spot ++ v)) (sym e) (subst Goes (sym (append-nil (spot_text spot))) (spot_goes spot h))

word_goes : (spot : Spot) (w : List ℕ) → IsGood spot → IsGoodWord spot w → Goes (spot_text spot ++ w)
word_goes Naming w h k = elim k [
  | inl e ↦ nothing_more Naming w h e
  | inr l ↦
      goes_before (codes "fun " ++ w) (32 ∷ [])
      (move_goes (codes "fun " ++ (w ++ 32 ∷ [])) (step Naming w 32) (step_leaves Naming w 32 tt (inr l)) (naming_moves w l))
]
word_goes Outside w h k = elim k [ inl e ↦ nothing_more Outside w h e | inr c ↦ front_goes Outside w h tt c (λ v. tt) ]
word_goes (Heading f t) w h k = elim k [ inl e ↦ nothing_more (Heading f t) w h e | inr c ↦ front_goes (Heading f t) w h tt c (λ v. tt) ]
word_goes (Starting f) w h k = elim k [ inl e ↦ nothing_more (Starting f) w h e | inr c ↦ front_goes (Starting f) w h tt c (λ v. tt) ]
word_goes (Within f l) w h k = elim k [ inl e ↦ nothing_more (Within f l) w h e | inr c ↦ front_goes (Within f l) w h tt c (λ v. tt) ]

-- Progress ---------------------------------------------------------------------------------------

abbrev text_of : Progress → List ℕ
text_of p = code_text p.funs ++ (spot_text p.spot ++ p.word)

record IsSound (p : Progress) : Type 0 where
  funs : AreFitFuns p.funs
  spot : IsGood p.spot
  word : IsGoodWord p.spot p.word

-- what reading a byte leaves
record Fed (t : List ℕ) (q : Progress) : Type 0 where
  text : text_of q ≡ t
  sound : IsSound q

spelled_funs-push : (fs : List CodeFun) (f : CodeFun) → AreFitFuns fs → IsFitFun f → AreFitFuns (fs ++ f ∷ [])
spelled_funs-push [] f a b = (b, tt)
spelled_funs-push (g ∷ fs) f a b = (a.0, spelled_funs-push fs f a.1 b)

no_word : (spot : Spot) → IsGoodWord spot []
no_word Naming = inl refl
no_word Outside = inl refl
no_word (Heading f t) = inl refl
no_word (Starting f) = inl refl
no_word (Within f l) = inl refl

moved_fed : (funs : List CodeFun) (t : List ℕ) (m : Move) (q : Progress) → AreFitFuns funs → Leaves t m → progress_behind funs m ≡ Some q → Fed (code_text funs ++ t) q
moved_fed funs t (To spot) q h l e =
    subst (λ p. Fed (code_text funs ++ t) p) (same_Some (at_spot funs spot []) q e)
    (record { text = ap (λ u. code_text funs ++ u) (append-nil (spot_text spot) ∙ l.0); sound = record { funs = h; spot = l.1; word = no_word spot } })
moved_fed funs t (Closed f) q h l e =
    subst (λ p. Fed (code_text funs ++ t) p) (same_Some (at_spot (funs ++ f ∷ []) Outside []) q e)
    (record {
      text = append-nil (code_text (funs ++ f ∷ [])) ∙ code_text-push funs f ∙ ap (λ u. code_text funs ++ u) l.0;
      sound = record { funs = spelled_funs-push funs f h l.1; spot = tt; word = inl refl };
    })
moved_fed funs t Refused q h l e = absurd (cc e)

-- the byte at the end of what is read
byte_last : (p : Progress) (b : ℕ) → code_text p.funs ++ (spot_text p.spot ++ (p.word ++ b ∷ [])) ≡ text_of p ++ b ∷ []
byte_last p b =
    ap (λ u. code_text p.funs ++ u) (sym (append_assoc (spot_text p.spot) p.word (b ∷ []))) ∙ sym (append_assoc (code_text p.funs) (spot_text p.spot ++ p.word) (b ∷ []))

gap_fed : (p : Progress) (b : ℕ) (q : Progress) → IsSound p → progress_behind p.funs (step p.spot p.word b) ≡ Some q → Fed (text_of p ++ b ∷ []) q
gap_fed p b q h e =
    subst (λ t. Fed t q) (byte_last p b)
    (moved_fed p.funs (spot_text p.spot ++ (p.word ++ b ∷ [])) (step p.spot p.word b) q h.funs (step_leaves p.spot p.word b h.spot (named_from p.spot p.word h.word)) e)

word_fed : (p : Progress) (b : ℕ) (q : Progress) → IsSound p → (if goes_on p.spot (p.word ++ b ∷ []) b then Some (record p { word = p.word ++ b ∷ [] }) else None) ≡ Some q → Fed (text_of p ++ b ∷ []) q
word_fed p b q h e = elim (goes_on p.spot (p.word ++ b ∷ []) b) as (λ (c : Bool). goes_on p.spot (p.word ++ b ∷ []) b ≡ c → (if c then Some (record p { word = p.word ++ b ∷ [] }) else None) ≡ Some q → Fed (text_of p ++ b ∷ []) q) [
  | true ↦ λ g k.
      subst (λ r. Fed (text_of p ++ b ∷ []) r) (same_Some (record p { word = p.word ++ b ∷ [] }) q k)
      (record { text = byte_last p b; sound = record { funs = h.funs; spot = h.spot; word = word_more p.spot p.word b h.spot h.word g } })
  | false ↦ λ g k. absurd (cc k)
] refl e

feed_fed : (p : Progress) (b : ℕ) (q : Progress) → IsSound p → feed p b ≡ Some q → Fed (text_of p ++ b ∷ []) q
feed_fed p b q h e = elim (is_gap b) as (λ (c : Bool). (if c then progress_behind p.funs (step p.spot p.word b) else (if goes_on p.spot (p.word ++ b ∷ []) b then Some (record p { word = p.word ++ b ∷ [] }) else None)) ≡ Some q → Fed (text_of p ++ b ∷ []) q) [
  | true ↦ λ k. gap_fed p b q h k
  | false ↦ λ k. word_fed p b q h k
] e

fed_more : (p : Progress) (b : ℕ) (bs : List ℕ) (q : Progress) (o : Option Progress) → IsSound p → feed p b ≡ o → run o bs ≡ Some q
    → ((r : Progress) → IsSound r → run (Some r) bs ≡ Some q → Fed (text_of r ++ bs) q) → Fed (text_of p ++ b ∷ bs) q
fed_more p b bs q None h is k rest = absurd (cc (sym (run_none bs) ∙ k))
fed_more p b bs q (Some r) h is k rest =
    let one = feed_fed p b r h is in
    let all = rest r one.sound k in
    record { text = all.text ∙ ap (λ t. t ++ bs) one.text ∙ append_assoc (text_of p) (b ∷ []) bs; sound = all.sound }

run_fed : (p : Progress) (bs : List ℕ) (q : Progress) → IsSound p → run (Some p) bs ≡ Some q → Fed (text_of p ++ bs) q
run_fed p [] q h e = subst (λ r. Fed (text_of p ++ []) r) (same_Some p q e) (record { text = sym (append-nil (text_of p)); sound = h })
run_fed p (b ∷ bs) q h e = fed_more p b bs q (feed p b) h refl e (λ r s k. run_fed r bs q s k)

read_fed : (bytes : List ℕ) (q : Progress) → run (Some start) bytes ≡ Some q → Fed bytes q
read_fed bytes q e = run_fed start bytes q (record { funs = tt; spot = tt; word = inl refl }) e

-- Where reading ends -------------------------------------------------------------------------------

-- some code text begins with these bytes, or is them; the empty list is a front, too
abbrev IsFront : List ℕ → Type 0
IsFront bytes = BeginsSome IsCode bytes

sound_front : (bytes : List ℕ) (p : Progress) → Fed bytes p → IsFront bytes
sound_front bytes p fed =
    let goes = word_goes p.spot p.word fed.sound.spot fed.sound.word in (
      goes.more,
      (
        p.funs ++ goes.fun ∷ [],
        record {
          spelled = fit_funs (p.funs ++ goes.fun ∷ []) (spelled_funs-push p.funs goes.fun fed.sound.funs goes.spelled);
          is = ap (λ t. t ++ goes.more) (sym fed.text) ∙ append_assoc (code_text p.funs) (spot_text p.spot ++ p.word) goes.more
              ∙ ap (λ t. code_text p.funs ++ t) goes.is ∙ sym (code_text-push p.funs goes.fun);
        },
      ),
    )

done_text : (p : Progress) → is_done p ≡ true → spot_text p.spot ++ p.word ≡ []
done_text p e = done_at p.spot p.word e
  where
    done_at : (spot : Spot) (w : List ℕ) → (is_outside spot && (length w == 0)) ≡ true → spot_text spot ++ w ≡ []
    done_at Outside [] e = refl
    done_at Outside (b ∷ w) e = absurd (grind (arith, common_steps))
    done_at Naming w e = absurd (cc e)
    done_at (Heading f t) w e = absurd (cc e)
    done_at (Starting f) w e = absurd (cc e)
    done_at (Within f l) w e = absurd (cc e)

-- a whole text is that of the functions read
pub read_whole : (bytes : List ℕ) (p : Progress) → run (Some start) bytes ≡ Some p → is_done p ≡ true → IsTextOf bytes p.funs
read_whole bytes p e done =
    let fed = read_fed bytes p e in
    record { spelled = fit_funs p.funs fed.sound.funs; is = sym fed.text ∙ ap (λ t. code_text p.funs ++ t) (done_text p done) ∙ append-nil (code_text p.funs) }

-- a code text is read to its end
code_done : (bytes : List ℕ) (p : Progress) → run (Some start) bytes ≡ Some p → IsCode bytes → is_done p ≡ true
code_done bytes p e code =
    let read : run (Some start) bytes ≡ Some (at_spot code.0 Outside []) = ap (run (Some start)) code.1.is ∙ reads_code code.0 (funs_fit code.0 code.1.spelled) in
    subst (λ q. is_done q ≡ true) (same_Some (at_spot code.0 Outside []) p (sym read ∙ e)) refl

take-whole : (bytes : List ℕ) → take (length bytes) bytes ≡ bytes
take-whole bytes = take_all (length bytes) bytes (omega arith)

-- bytes that are all read, and no whole text
pub stops_at_end : (bytes : List ℕ) (p : Progress) → run (Some start) bytes ≡ Some p → is_done p ≡ false → StopsAt bytes (length bytes)
stops_at_end bytes p e open_end = record {
  within = omega arith;
  before = subst IsFront (sym (take-whole bytes)) (sound_front bytes p (read_fed bytes p e));
  here = λ lt front. absurd (omega (arith, lt));
  at_end = λ at code. absurd (cc (sym open_end ∙ code_done bytes p e code));
}

-- a byte that is refused
pub stops_here : (bytes : List ℕ) (at d : ℕ) (p : Progress) → at < length bytes → run (Some start) (take at bytes) ≡ Some p → feed p (get_or bytes at d) ≡ None → StopsAt bytes at
stops_here bytes at d p lt e refused =
    let b : ℕ = get_or bytes at d in
    let next : take (suc at) bytes ≡ take at bytes ++ b ∷ [] = ap (λ n. take n bytes) (let z : suc at ≡ at + 1 = omega arith in z) ∙ take_more bytes at d lt in
    let none : run (Some start) (take (suc at) bytes) ≡ None = ap (run (Some start)) next ∙ run_append (Some start) (take at bytes) (b ∷ []) ∙ ap (λ o. run o (b ∷ [])) e ∙ refused in
    record {
      within = omega (arith, lt);
      before = sound_front (take at bytes) p (read_fed (take at bytes) p e);
      here = λ _ front.
          let code = front.1 in
          let read : run (Some start) (take (suc at) bytes ++ front.0) ≡ Some (at_spot code.0 Outside []) = ap (run (Some start)) code.1.is ∙ reads_code code.0 (funs_fit code.0 code.1.spelled) in
          absurd (cc (sym read ∙ run_append (Some start) (take (suc at) bytes) front.0 ∙ ap (λ o. run o front.0) none ∙ run_none front.0));
      at_end = λ is code. absurd (omega (arith, lt, is));
    }

-- two lists of functions with one text are the same
pub one_text : (fs gs : List CodeFun) → AreSpelled fs → AreSpelled gs → code_text fs ≡ code_text gs → fs ≡ gs
one_text fs gs hf hg e =
    let same : Some (at_spot fs Outside []) ≡ Some (at_spot gs Outside []) = sym (reads_code fs (funs_fit fs hf)) ∙ ap (run (Some start)) e ∙ reads_code gs (funs_fit gs hg) in
    ap (λ (p : Progress). p.funs) (same_Some (at_spot fs Outside []) (at_spot gs Outside []) same)

-- a byte that is read
pub one_more : (bytes : List ℕ) (at d : ℕ) (p q : Progress) → at < length bytes → run (Some start) (take at bytes) ≡ Some p → feed p (get_or bytes at d) ≡ Some q → run (Some start) (take (at + 1) bytes) ≡ Some q
one_more bytes at d p q lt e fed =
    let b : ℕ = get_or bytes at d in
    ap (run (Some start)) (take_more bytes at d lt) ∙ run_append (Some start) (take at bytes) (b ∷ []) ∙ ap (λ o. run o (b ∷ [])) e ∙ fed

-- all bytes are read
pub all_read : (bytes : List ℕ) (at : ℕ) (p : Progress) → length bytes ≤ at → run (Some start) (take at bytes) ≡ Some p → run (Some start) bytes ≡ Some p
all_read bytes at p le e = ap (run (Some start)) (sym (take_all at bytes le)) ∙ e

-- what reading answers at the end
pub whole_only : (bytes : List ℕ) (p : Progress) (funs : List CodeFun) → run (Some start) bytes ≡ Some p → IsTextOf bytes funs → (is_done p ≡ true) × (p.funs ≡ funs)
whole_only bytes p funs e text =
    let read : run (Some start) bytes ≡ Some (at_spot funs Outside []) = ap (run (Some start)) text.is ∙ reads_code funs (funs_fit funs text.spelled) in
    let same : at_spot funs Outside [] ≡ p = same_Some (at_spot funs Outside []) p (sym read ∙ e) in
    (subst (λ q. is_done q ≡ true) same refl, ap (λ (q : Progress). q.funs) (sym same))

-- where reading stops there is no whole text
pub none_whole : (bytes : List ℕ) (at : ℕ) (funs : List CodeFun) → StopsAt bytes at → IsTextOf bytes funs → ⊥
none_whole bytes at funs stops text = elim (nat_lt at (length bytes)) as (λ (b : Bool). nat_lt at (length bytes) ≡ b → ⊥) [
  | true ↦ λ e.
      let lt : at < length bytes = grind (arith, common_steps) in
      stops.here lt (drop (suc at) bytes, (funs, subst (λ t. IsTextOf t funs) (sym (take-append-drop (suc at) bytes)) text))
  | false ↦ λ e. stops.at_end (let le : length bytes ≤ at = grind (arith, common_steps) in omega (arith, le, stops.within)) (funs, text)
] refl
