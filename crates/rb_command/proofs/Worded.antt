-- What reading words one after the other comes to: the command that they are, or the word where they stop.
use Rattle.std.proofs.Common.{◌≡◌, ◌≤◌, ◌<◌, ◌+◌, ◌-◌, ◌^◌, ℕ, suc, List, [], ◌∷◌, codes, map, refl, sym, ap, subst, ◌∙◌, arith, Bool, true, false, if◌then◌else◌, Option, Some, None, Result, Ok, Err, MatchResult}
use Rattle.std.specs.Fmt.{decimal}
use Rattle.std.specs.List.{All}
use Rattle.std.specs.Str.{bytes_eq}
use Rattle.std.proofs.lemmas.Bool.Decides.{Decides-eqb}
use Rattle.std.proofs.lemmas.Fmt.{decimal_injective}
use Rattle.std.proofs.lemmas.List.Elements.{All-nil, All-cons, All-head, All-tail}
use Rattle.std.proofs.lemmas.Slice.Eq.{slice_eq-Decides}
use Rattle.rb_core.specs.Decimal.{number_in}
use Rattle.rb_command.specs.Command.{Limits, Command, Parsed, IsBetween, AreLimits, IsWordsOf, IsParsed, command_words, check, layout, compile, run, image, count, gen, genrun, exec, value, peek}
use Rattle.rb_command.specs.Path.{AreSteps, path_text}
use Rattle.rb_command.specs.View.{command_view, IsUsage}
use Rattle.rb_command.specs.declared.command.Command as declared
use Rattle.rb_command.specs.declared.command.CommandFault.{CommandFault}
use Rattle.rb_command.specs.declared.command.CommandFault.TheVariants as fault
use Rattle.rb_command.specs.inner.Parsing.{with_word, at_number, with_number, with_calls_and_region, alone, with_call, gen_words, genrun_words, first_number, numbers_from, exec_of, function_words, exec_words, value_words, path_in, at_path, with_path, peek_words, command_of, StopsAs}
use Rattle.rb_command.proofs.Numbered.{spelled, read, same}
use Rattle.rb_command.proofs.Paths.{path_spelled, path_read, one_path}
use Rattle.rb_command.proofs.Stopping.{Stops, stops-short, stops-first, stops-next}

-- Forms of words ----------------------------------------------------------------------------

-- a word, and a form behind it
abbrev pub Word : (List ℕ → List (List ℕ) → Command → Type 0) → List (List ℕ) → Command → Type 0
Word Q [] c = ⊥
Word Q (w ∷ ws) c = Q w ws c

-- a word that spells a number, and a form behind it
abbrev pub Number : ℕ → ℕ → (ℕ → List (List ℕ) → Command → Type 0) → List (List ℕ) → Command → Type 0
Number low high Q [] c = ⊥
Number low high Q (w ∷ ws) c = (n : ℕ) × IsBetween low high n × (w ≡ decimal n) × Q n ws c

-- a word that spells a path, and a form behind it
abbrev pub Way : (List ℕ → List (List ℕ) → Command → Type 0) → List (List ℕ) → Command → Type 0
Way Q [] c = ⊥
Way Q (w ∷ ws) c = (path : List ℕ) × AreSteps path × (w ≡ path_text path) × Q path ws c

-- CALLS and REGION, and a form behind them
abbrev pub Limited : (Limits → List (List ℕ) → Command → Type 0) → List (List ℕ) → Command → Type 0
Limited Q = Number 0 1000000000 (λ calls. Number 64 16777216 (λ region. Q (record { calls = calls; region = region })))

-- the end
abbrev pub End : Command → List (List ℕ) → Command → Type 0
End d [] c = c ≡ d
End d (w ∷ ws) c = ⊥

-- zero or more words
abbrev pub Values : (List (List ℕ) → Command) → List (List ℕ) → Command → Type 0
Values f ws c = c ≡ f ws

-- zero or more words that spell numbers
abbrev pub Numbers : (List ℕ → Command) → List (List ℕ) → Command → Type 0
Numbers f ws c = (ns : List ℕ) × All (λ n. n < 2 ^ 64) ns × (ws ≡ map decimal ns) × (c ≡ f ns)

-- words of this form
abbrev Inhabited : (List (List ℕ) → Command → Type 0) → Type 0
Inhabited R = (ws : List (List ℕ)) × (c : Command) × R ws c

-- What is read ------------------------------------------------------------------------------

-- the first word has this number: the command is written so, or the words stop there
abbrev pub Reads : (List (List ℕ) → Command → Type 0) → ℕ → List (List ℕ) → Parsed → Type 0
Reads R n ws (Ok c) = R ws c
Reads R n ws (Err m) = (good : ℕ) × (m ≡ n + good) × Stops (λ us. (c : Command) × R us c) ws good

-- behind a word
later : (R S : List (List ℕ) → Command → Type 0) (n : ℕ) (w : List ℕ) (ws : List (List ℕ)) (r : Parsed)
    → ((us : List (List ℕ)) (c : Command) → S us c → R (w ∷ us) c) → ((us : List (List ℕ)) (c : Command) → R (w ∷ us) c → S us c)
    → Reads S (n + 1) ws r → Reads R n (w ∷ ws) r
later R S n w ws (Ok c) to of h = to ws c h
later R S n w ws (Err m) to of h =
    let e : m ≡ n + suc h.0 = omega (arith, h.1) in
    (suc h.0, e, stops-next (λ us. (c : Command) × R us c) (λ us. (c : Command) × S us c) w (λ us k. (k.0, to us k.0 k.1)) (λ us k. (k.0, of us k.0 k.1)) ws h.0 h.2)

-- the first word is at fault
first_stops : (R : List (List ℕ) → Command → Type 0) (n : ℕ) (w : List ℕ) (ws : List (List ℕ)) → Inhabited R
    → ((us : List (List ℕ)) (c : Command) → R (w ∷ us) c → ⊥) → Reads R n (w ∷ ws) (Err n)
first_stops R n w ws some none =
    let e : n ≡ n + 0 = omega arith in
    (0, e, stops-first (λ us. (c : Command) × R us c) w ws (λ us h. none us h.0 h.1) some.0 (some.1, some.2))

-- the first word is missing
short_stops : (R : List (List ℕ) → Command → Type 0) (n : ℕ) → Inhabited R → ((c : Command) → R [] c → ⊥) → Reads R n [] (Err n)
short_stops R n some none =
    let e : n ≡ n + 0 = omega arith in
    (0, e, stops-short (λ us. (c : Command) × R us c) (λ h. none h.0 h.1) some.0 (some.1, some.2))

reads_word : (Q : List ℕ → List (List ℕ) → Command → Type 0) (n : ℕ) (ws : List (List ℕ)) (go : List ℕ → List (List ℕ) → Parsed) → Inhabited (Q [])
    → ((w : List ℕ) (us : List (List ℕ)) → Reads (Q w) (n + 1) us (go w us)) → Reads (Word Q) n ws (with_word n ws go)
reads_word Q n [] go some h = short_stops (Word Q) n ([] ∷ some.0, some.1, some.2) (λ c k. k)
reads_word Q n (w ∷ us) go some h = later (Word Q) (Q w) n w us (go w us) (λ vs c k. k) (λ vs c k. k) (h w us)

module _ (low high : ℕ) (order : low ≤ high) (Q : ℕ → List (List ℕ) → Command → Type 0) (some : Inhabited (Q low)) where
  some_number : Inhabited (Number low high Q)
  some_number = let l : low ≤ low = omega arith in (decimal low ∷ some.0, some.1, (low, (l, order), refl, some.2))

  module _ (small : high < 2 ^ 64) (n : ℕ) (go : ℕ → List (List ℕ) → Parsed)
      (h : (k : ℕ) → IsBetween low high k → (us : List (List ℕ)) → Reads (Q k) (n + 1) us (go k us)) where
    by_number : (w : List ℕ) (us : List (List ℕ)) (o : Option ℕ) → number_in low high w ≡ o → Reads (Number low high Q) n (w ∷ us) (at_number n o (λ k. go k us))
    by_number w us None e = first_stops (Number low high Q) n w us some_number
        (λ vs c k. absurd (cc (sym e ∙ ap (number_in low high) k.2 ∙ read low high small k.0 k.1)))
    by_number w us (Some k) e =
        let is = spelled low high small w k e in
        later (Number low high Q) (Q k) n w us (go k us) (λ vs c q. (k, is.0, is.1, q))
        (λ vs c r. subst (λ (m : ℕ). Q m vs c) (same low high small r.0 k r.1 is.0 (sym r.2 ∙ is.1)) r.3) (h k is.0 us)

    reads_number : (ws : List (List ℕ)) → Reads (Number low high Q) n ws (with_number n low high ws go)
    reads_number [] = short_stops (Number low high Q) n some_number (λ c k. k)
    reads_number (w ∷ us) = by_number w us (number_in low high w) refl

module _ (Q : List ℕ → List (List ℕ) → Command → Type 0) (some : Inhabited (Q [])) (n : ℕ) (go : List ℕ → List (List ℕ) → Parsed)
    (h : (path : List ℕ) → AreSteps path → (us : List (List ℕ)) → Reads (Q path) (n + 1) us (go path us)) where
  some_path : Inhabited (Way Q)
  some_path = (path_text [] ∷ some.0, some.1, ([], All-nil (λ step. step < 2 ^ 32), refl, some.2))

  by_path : (w : List ℕ) (us : List (List ℕ)) (o : Option (List ℕ)) → path_in w ≡ o → Reads (Way Q) n (w ∷ us) (at_path n o (λ path. go path us))
  by_path w us None e = first_stops (Way Q) n w us some_path (λ vs c k. absurd (cc (sym e ∙ ap path_in k.2 ∙ path_read k.0 k.1)))
  by_path w us (Some path) e =
      let is = path_spelled w path e in
      later (Way Q) (Q path) n w us (go path us) (λ vs c q. (path, is.0, is.1, q))
      (λ vs c r. subst (λ (steps : List ℕ). Q steps vs c) (one_path r.0 path r.1 is.0 (sym r.2 ∙ is.1)) r.3) (h path is.0 us)

  reads_path : (ws : List (List ℕ)) → Reads (Way Q) n ws (with_path n ws go)
  reads_path [] = short_stops (Way Q) n some_path (λ c k. k)
  reads_path (w ∷ us) = by_path w us (path_in w) refl

abbrev limits_of : ℕ → ℕ → Limits
limits_of calls region = record { calls = calls; region = region }

some_limited : (Q : Limits → List (List ℕ) → Command → Type 0) → ((limits : Limits) → Inhabited (Q limits)) → Inhabited (Limited Q)
some_limited Q some =
    some_number 0 1000000000 (omega arith) (λ calls. Number 64 16777216 (λ region. Q (limits_of calls region)))
    (some_number 64 16777216 (omega arith) (λ region. Q (limits_of 0 region)) (some (limits_of 0 64)))

reads_limits : (Q : Limits → List (List ℕ) → Command → Type 0) (n : ℕ) (ws : List (List ℕ)) (go : Limits → List (List ℕ) → Parsed)
    → ((limits : Limits) → Inhabited (Q limits)) → ((limits : Limits) → AreLimits limits → (us : List (List ℕ)) → Reads (Q limits) (n + 1 + 1) us (go limits us))
    → Reads (Limited Q) n ws (with_calls_and_region n ws go)
reads_limits Q n ws go some h =
    reads_number 0 1000000000 (omega arith) (λ calls. Number 64 16777216 (λ region. Q (limits_of calls region)))
    (some_number 64 16777216 (omega arith) (λ region. Q (limits_of 0 region)) (some (limits_of 0 64))) (omega arith) n
    (λ calls us. with_number (n + 1) 64 16777216 us (λ region vs. go (limits_of calls region) vs))
    (λ calls low us. reads_number 64 16777216 (omega arith) (λ region. Q (limits_of calls region)) (some (limits_of calls 64)) (omega arith) (n + 1)
    (λ region vs. go (limits_of calls region) vs) (λ region high vs. h (limits_of calls region) (low, high) vs) us)
    ws

reads_end : (d : Command) (n : ℕ) (ws : List (List ℕ)) → Reads (End d) n ws (alone n d ws)
reads_end d n [] = refl
reads_end d n (w ∷ ws) = first_stops (End d) n w ws ([], d, refl) (λ us c k. k)

some_end : (d : Command) → Inhabited (End d)
some_end d = ([], d, refl)

-- the numbers that are read make a command
abbrev made : (List ℕ → Command) → Result (List ℕ) ℕ → Parsed
made f (Ok ns) = Ok (f ns)
made f (Err m) = Err m

made_first : (f : List ℕ → Command) (n k : ℕ) (r : Result (List ℕ) ℕ) → made (λ ns. f (k ∷ ns)) r ≡ made f (first_number n (Some k) r)
made_first f n k (Ok ns) = refl
made_first f n k (Err m) = refl

-- the last number below 2^64
abbrev greatest : ℕ
greatest = 2 ^ 64 - 1

some_numbers : (f : List ℕ → Command) → Inhabited (Numbers f)
some_numbers f = ([], f [], ([], All-nil (λ n. n < 2 ^ 64), refl, refl))

-- behind a word that spells a number
numbers_behind : (f : List ℕ → Command) (w : List ℕ) (us : List (List ℕ)) (c : Command) → Numbers f (w ∷ us) c
    → (k : ℕ) × (k < 2 ^ 64) × (w ≡ decimal k) × Numbers (λ ns. f (k ∷ ns)) us c
numbers_behind f w us c h = of h.0 h.1 h.2 h.3 where
  of : (ns : List ℕ) → All (λ n. n < 2 ^ 64) ns → w ∷ us ≡ map decimal ns → c ≡ f ns → (k : ℕ) × (k < 2 ^ 64) × (w ≡ decimal k) × Numbers (λ ns. f (k ∷ ns)) us c
  of [] small e is = absurd (cc e)
  of (k ∷ ns) small e is = (k, All-head (λ n. n < 2 ^ 64) k ns small, cc, (ns, All-tail (λ n. n < 2 ^ 64) k ns small, cc, is))

reads_numbers : (f : List ℕ → Command) (n : ℕ) (ws : List (List ℕ)) → Reads (Numbers f) n ws (made f (numbers_from n ws))
reads_numbers f n [] = ([], All-nil (λ n. n < 2 ^ 64), refl, refl)
reads_numbers f n (w ∷ us) = by_first (number_in 0 greatest w) refl (λ k. reads_numbers (λ ns. f (k ∷ ns)) (n + 1) us) where
  by_first : (o : Option ℕ) → number_in 0 greatest w ≡ o → ((k : ℕ) → Reads (Numbers (λ ns. f (k ∷ ns))) (n + 1) us (made (λ ns. f (k ∷ ns)) (numbers_from (n + 1) us)))
      → Reads (Numbers f) n (w ∷ us) (made f (first_number n o (numbers_from (n + 1) us)))
  by_first None e rest = first_stops (Numbers f) n w us (some_numbers f) (λ vs c k.
      let b = numbers_behind f w vs c k in
      absurd (cc (sym e ∙ ap (number_in 0 greatest) b.2 ∙ read 0 greatest (omega arith) b.0 (omega arith, omega (arith, b.1)))))
  by_first (Some k) e rest =
      let is = spelled 0 greatest (omega arith) w k e in
      let fits : k < 2 ^ 64 = omega (arith, is.0.1) in
      subst (λ (r : Parsed). Reads (Numbers f) n (w ∷ us) r) (made_first f n k (numbers_from (n + 1) us))
      (later (Numbers f) (Numbers (λ ns. f (k ∷ ns))) n w us (made (λ ns. f (k ∷ ns)) (numbers_from (n + 1) us))
      (λ vs c q. (k ∷ q.0, All-cons (λ n. n < 2 ^ 64) k q.0 fits q.1, cc (is.1, q.2), q.3))
      (λ vs c q.
      let b = numbers_behind f w vs c q in
      let alike : b.0 ≡ k = decimal_injective b.0 k b.1 fits (sym b.2 ∙ is.1) in
      subst (λ (m : ℕ). Numbers (λ ns. f (m ∷ ns)) vs c) alike b.3)
      (rest k))

-- The forms of the commands -----------------------------------------------------------------

-- what a command's words begin with
abbrev key_of : Command → List ℕ
key_of (check file) = codes "check"
key_of (layout file) = codes "layout"
key_of (compile file) = codes "compile"
key_of (run file limits values) = codes "run"
key_of (image file limits values) = codes "image"
key_of (count file limits values) = codes "count"
key_of (gen functions) = codes "gen"
key_of (genrun functions limits) = codes "genrun"
key_of (exec code function limits words) = codes "exec"
key_of (value file second) = codes "value"
key_of (peek file second path) = codes "peek"

abbrev FileForm : (List ℕ → Command) → List (List ℕ) → Command → Type 0
FileForm f = Word (λ file. End (f file))

abbrev CallForm : (List ℕ → Limits → List (List ℕ) → Command) → List (List ℕ) → Command → Type 0
CallForm f = Word (λ file. Limited (λ limits. Values (λ values. f file limits values)))

abbrev GenForm : List (List ℕ) → Command → Type 0
GenForm = Number 1 2000 (λ functions. End (gen functions))

abbrev GenRunForm : List (List ℕ) → Command → Type 0
GenRunForm = Number 1 2000 (λ functions. Limited (λ limits. End (genrun functions limits)))

abbrev ExecForm : List (List ℕ) → Command → Type 0
ExecForm = Word (λ code. Word (λ function. Limited (λ limits. Numbers (λ words. exec code function limits words))))

abbrev ValueForm : List (List ℕ) → Command → Type 0
ValueForm = Word (λ file. Word (λ second. End (value file second)))

abbrev PeekForm : List (List ℕ) → Command → Type 0
PeekForm = Word (λ file. Word (λ second. Way (λ path. End (peek file second path))))

reads_file : (f : List ℕ → Command) (ws : List (List ℕ)) → Reads (FileForm f) 2 ws (with_word 2 ws (λ file us. alone 3 (f file) us))
reads_file f ws = reads_word (λ file. End (f file)) 2 ws (λ file us. alone 3 (f file) us) (some_end (f [])) (λ file us. reads_end (f file) 3 us)

some_values : (f : List (List ℕ) → Command) → Inhabited (Values f)
some_values f = ([], f [], refl)

reads_call : (f : List ℕ → Limits → List (List ℕ) → Command) (ws : List (List ℕ)) → Reads (CallForm f) 2 ws (with_call ws f)
reads_call f ws =
    reads_word (λ file. Limited (λ limits. Values (f file limits))) 2 ws (λ file us. with_calls_and_region 3 us (λ limits values. Ok (f file limits values)))
    (some_limited (λ limits. Values (f [] limits)) (λ limits. some_values (f [] limits)))
    (λ file us. reads_limits (λ limits. Values (f file limits)) 3 us (λ limits values. Ok (f file limits values)) (λ limits. some_values (f file limits)) (λ limits fine vs. refl))

reads_gen : (ws : List (List ℕ)) → Reads GenForm 2 ws (gen_words ws)
reads_gen ws =
    reads_number 1 2000 (omega arith) (λ functions. End (gen functions)) (some_end (gen 1)) (omega arith) 2 (λ functions us. alone 3 (gen functions) us)
    (λ functions fine us. reads_end (gen functions) 3 us) ws

reads_genrun : (ws : List (List ℕ)) → Reads GenRunForm 2 ws (genrun_words ws)
reads_genrun ws =
    reads_number 1 2000 (omega arith) (λ functions. Limited (λ limits. End (genrun functions limits)))
    (some_limited (λ limits. End (genrun 1 limits)) (λ limits. some_end (genrun 1 limits))) (omega arith) 2
    (λ functions us. with_calls_and_region 3 us (λ limits vs. alone 5 (genrun functions limits) vs))
    (λ functions fine us. reads_limits (λ limits. End (genrun functions limits)) 3 us (λ limits vs. alone 5 (genrun functions limits) vs)
    (λ limits. some_end (genrun functions limits)) (λ limits few vs. reads_end (genrun functions limits) 5 vs)) ws

exec_made : (code function : List ℕ) (limits : Limits) (r : Result (List ℕ) ℕ) → made (exec code function limits) r ≡ exec_of code function limits r
exec_made code function limits (Ok ns) = refl
exec_made code function limits (Err m) = refl

reads_exec : (ws : List (List ℕ)) → Reads ExecForm 2 ws (exec_words ws)
reads_exec ws =
    let some : (code function : List ℕ) → Inhabited (Limited (λ limits. Numbers (exec code function limits))) =
    λ code function. some_limited (λ limits. Numbers (exec code function limits)) (λ limits. some_numbers (exec code function limits)) in
    reads_word (λ code. Word (λ function. Limited (λ limits. Numbers (exec code function limits)))) 2 ws function_words
    (let s = some [] [] in ([] ∷ s.0, s.1, s.2))
    (λ code us. reads_word (λ function. Limited (λ limits. Numbers (exec code function limits))) 3 us
    (λ function vs. with_calls_and_region 4 vs (λ limits rest. exec_of code function limits (numbers_from 6 rest))) (some code [])
    (λ function vs. reads_limits (λ limits. Numbers (exec code function limits)) 4 vs (λ limits rest. exec_of code function limits (numbers_from 6 rest))
    (λ limits. some_numbers (exec code function limits))
    (λ limits fine rest. subst (λ (r : Parsed). Reads (Numbers (exec code function limits)) 6 rest r) (exec_made code function limits (numbers_from 6 rest))
    (reads_numbers (exec code function limits) 6 rest))))

reads_value : (ws : List (List ℕ)) → Reads ValueForm 2 ws (value_words ws)
reads_value ws =
    reads_word (λ file. Word (λ second. End (value file second))) 2 ws (λ file us. with_word 3 us (λ second rest. alone 4 (value file second) rest))
    (let s = some_end (value [] []) in ([] ∷ s.0, s.1, s.2))
    (λ file us. reads_word (λ second. End (value file second)) 3 us (λ second rest. alone 4 (value file second) rest) (some_end (value file []))
    (λ second rest. reads_end (value file second) 4 rest))

reads_peek : (ws : List (List ℕ)) → Reads PeekForm 2 ws (peek_words ws)
reads_peek ws =
    reads_word (λ file. Word (λ second. Way (λ path. End (peek file second path)))) 2 ws
    (λ file us. with_word 3 us (λ second vs. with_path 4 vs (λ path rest. alone 5 (peek file second path) rest)))
    (let s = some_way [] [] in ([] ∷ s.0, s.1, s.2))
    (λ file us. reads_word (λ second. Way (λ path. End (peek file second path))) 3 us
    (λ second vs. with_path 4 vs (λ path rest. alone 5 (peek file second path) rest)) (some_way file [])
    (λ second vs. reads_path (λ path. End (peek file second path)) (some_end (peek file second [])) 4 (λ path rest. alone 5 (peek file second path) rest)
    (λ path steps rest. reads_end (peek file second path) 5 rest) vs))
  where
    some_way : (file second : List ℕ) → Inhabited (Way (λ path. End (peek file second path)))
    some_way file second = (path_text [] ∷ [], peek file second [], ([], All-nil (λ step. step < 2 ^ 32), refl, refl))

-- The forms are those of the commands' words ------------------------------------------------

abbrev Written : List (List ℕ) → Command → Type 0
Written ws c = IsWordsOf c ws

-- from its form

to_file : (f : List ℕ → Command) (key : List ℕ) → ((file : List ℕ) → IsWordsOf (f file) (key ∷ file ∷ []))
    → (ws : List (List ℕ)) (c : Command) → FileForm f ws c → IsWordsOf c (key ∷ ws)
to_file f key is [] c h = absurd h
to_file f key is (file ∷ []) c h = subst (λ (d : Command). IsWordsOf d (key ∷ file ∷ [])) (sym h) (is file)
to_file f key is (file ∷ w ∷ ws) c h = absurd h

to_call : (f : List ℕ → Limits → List (List ℕ) → Command) (key : List ℕ)
    → ((file : List ℕ) (limits : Limits) (values : List (List ℕ)) → AreLimits limits → IsWordsOf (f file limits values) (key ∷ file ∷ decimal limits.calls ∷ decimal limits.region ∷ values))
    → (ws : List (List ℕ)) (c : Command) → CallForm f ws c → IsWordsOf c (key ∷ ws)
to_call f key is [] c h = absurd h
to_call f key is (file ∷ []) c h = absurd h
to_call f key is (file ∷ w ∷ []) c h = absurd h.3
to_call f key is (file ∷ w ∷ v ∷ values) c h =
    let e : (key ∷ file ∷ decimal h.0 ∷ decimal h.3.0 ∷ values) ≡ key ∷ file ∷ w ∷ v ∷ values = cc (h.2, h.3.2) in
    subst (λ (d : Command). IsWordsOf d (key ∷ file ∷ w ∷ v ∷ values)) (sym h.3.3)
    (subst (λ (us : List (List ℕ)). IsWordsOf (f file (limits_of h.0 h.3.0) values) us) e (is file (limits_of h.0 h.3.0) values (h.1, h.3.1)))

to_gen : (ws : List (List ℕ)) (c : Command) → GenForm ws c → IsWordsOf c (codes "gen" ∷ ws)
to_gen [] c h = absurd h
to_gen (w ∷ []) c h = subst (λ (d : Command). IsWordsOf d (codes "gen" ∷ w ∷ [])) (sym h.3) (record { bounded = h.1; written = cc (h.2) })
to_gen (w ∷ v ∷ ws) c h = absurd h.3

to_genrun : (ws : List (List ℕ)) (c : Command) → GenRunForm ws c → IsWordsOf c (codes "genrun" ∷ ws)
to_genrun [] c h = absurd h
to_genrun (w ∷ []) c h = absurd h.3
to_genrun (w ∷ v ∷ []) c h = absurd h.3.3
to_genrun (w ∷ v ∷ u ∷ []) c h =
    subst (λ (d : Command). IsWordsOf d (codes "genrun" ∷ w ∷ v ∷ u ∷ [])) (sym h.3.3.3)
    (record { bounded = (h.1, (h.3.1, h.3.3.1)); written = cc (h.2, h.3.2, h.3.3.2) })
to_genrun (w ∷ v ∷ u ∷ t ∷ ws) c h = absurd h.3.3.3

to_exec : (ws : List (List ℕ)) (c : Command) → ExecForm ws c → IsWordsOf c (codes "exec" ∷ ws)
to_exec [] c h = absurd h
to_exec (code ∷ []) c h = absurd h
to_exec (code ∷ function ∷ []) c h = absurd h
to_exec (code ∷ function ∷ w ∷ []) c h = absurd h.3
to_exec (code ∷ function ∷ w ∷ v ∷ ws) c h =
    subst (λ (d : Command). IsWordsOf d (codes "exec" ∷ code ∷ function ∷ w ∷ v ∷ ws)) (sym h.3.3.3)
    (record { bounded = ((h.1, h.3.1), h.3.3.1); written = cc (h.2, h.3.2, h.3.3.2) })

to_value : (ws : List (List ℕ)) (c : Command) → ValueForm ws c → IsWordsOf c (codes "value" ∷ ws)
to_value [] c h = absurd h
to_value (file ∷ []) c h = absurd h
to_value (file ∷ second ∷ []) c h = subst (λ (d : Command). IsWordsOf d (codes "value" ∷ file ∷ second ∷ [])) (sym h) (record { bounded = tt; written = refl })
to_value (file ∷ second ∷ w ∷ ws) c h = absurd h

to_peek : (ws : List (List ℕ)) (c : Command) → PeekForm ws c → IsWordsOf c (codes "peek" ∷ ws)
to_peek [] c h = absurd h
to_peek (file ∷ []) c h = absurd h
to_peek (file ∷ second ∷ []) c h = absurd h
to_peek (file ∷ second ∷ w ∷ []) c h =
    subst (λ (d : Command). IsWordsOf d (codes "peek" ∷ file ∷ second ∷ w ∷ [])) (sym h.3) (record { bounded = h.1; written = cc (h.2) })
to_peek (file ∷ second ∷ w ∷ v ∷ ws) c h = absurd h.3

-- to its form

-- the first word
begun : (c : Command) (w : List ℕ) (ws : List (List ℕ)) → w ∷ ws ≡ command_words c → w ≡ key_of c
begun (check file) w ws e = cc
begun (layout file) w ws e = cc
begun (compile file) w ws e = cc
begun (run file limits values) w ws e = cc
begun (image file limits values) w ws e = cc
begun (count file limits values) w ws e = cc
begun (gen functions) w ws e = cc
begun (genrun functions limits) w ws e = cc
begun (exec code function limits words) w ws e = cc
begun (value file second) w ws e = cc
begun (peek file second path) w ws e = cc

is_key : (w key : List ℕ) → bytes_eq w key ≡ true → w ≡ key
is_key w key e = (slice_eq-Decides Decides-eqb w key (bytes_eq w key) refl).0 e

not_key : (w key : List ℕ) → bytes_eq w key ≡ false → w ≡ key → ⊥
not_key w key e is = let f : bytes_eq w key ≡ true = (slice_eq-Decides Decides-eqb w key (bytes_eq w key) refl).1 is in absurd (cc (sym e ∙ f))

other_key : (key : List ℕ) (ws : List (List ℕ)) (c : Command) → bytes_eq key (key_of c) ≡ false → IsWordsOf c (key ∷ ws) → ⊥
other_key key ws c e h = not_key key (key_of c) e (begun c key ws h.written)

module _ (ws : List (List ℕ)) where
  behind : (key : List ℕ) (us vs : List (List ℕ)) → key ∷ us ≡ key ∷ vs → vs ≡ us
  behind key us vs e = cc

  pub of_check : (c : Command) → IsWordsOf c (codes "check" ∷ ws) → FileForm check ws c
  of_check (check file) h = subst (λ (us : List (List ℕ)). FileForm check us (check file)) (behind _ ws _ h.written) refl
  of_check c h = absurd (other_key (codes "check") ws c refl h)

  pub of_layout : (c : Command) → IsWordsOf c (codes "layout" ∷ ws) → FileForm layout ws c
  of_layout (layout file) h = subst (λ (us : List (List ℕ)). FileForm layout us (layout file)) (behind _ ws _ h.written) refl
  of_layout c h = absurd (other_key (codes "layout") ws c refl h)

  pub of_compile : (c : Command) → IsWordsOf c (codes "compile" ∷ ws) → FileForm compile ws c
  of_compile (compile file) h = subst (λ (us : List (List ℕ)). FileForm compile us (compile file)) (behind _ ws _ h.written) refl
  of_compile c h = absurd (other_key (codes "compile") ws c refl h)

  pub of_run : (c : Command) → IsWordsOf c (codes "run" ∷ ws) → CallForm run ws c
  of_run (run file limits values) h =
      subst (λ (us : List (List ℕ)). CallForm run us (run file limits values)) (behind _ ws _ h.written)
      (limits.calls, h.bounded.0, refl, (limits.region, h.bounded.1, refl, refl))
  of_run c h = absurd (other_key (codes "run") ws c refl h)

  pub of_image : (c : Command) → IsWordsOf c (codes "image" ∷ ws) → CallForm image ws c
  of_image (image file limits values) h =
      subst (λ (us : List (List ℕ)). CallForm image us (image file limits values)) (behind _ ws _ h.written)
      (limits.calls, h.bounded.0, refl, (limits.region, h.bounded.1, refl, refl))
  of_image c h = absurd (other_key (codes "image") ws c refl h)

  pub of_count : (c : Command) → IsWordsOf c (codes "count" ∷ ws) → CallForm count ws c
  of_count (count file limits values) h =
      subst (λ (us : List (List ℕ)). CallForm count us (count file limits values)) (behind _ ws _ h.written)
      (limits.calls, h.bounded.0, refl, (limits.region, h.bounded.1, refl, refl))
  of_count c h = absurd (other_key (codes "count") ws c refl h)

  pub of_gen : (c : Command) → IsWordsOf c (codes "gen" ∷ ws) → GenForm ws c
  of_gen (gen functions) h =
      subst (λ (us : List (List ℕ)). GenForm us (gen functions)) (behind _ ws _ h.written) (functions, h.bounded, refl, refl)
  of_gen c h = absurd (other_key (codes "gen") ws c refl h)

  pub of_genrun : (c : Command) → IsWordsOf c (codes "genrun" ∷ ws) → GenRunForm ws c
  of_genrun (genrun functions limits) h =
      subst (λ (us : List (List ℕ)). GenRunForm us (genrun functions limits)) (behind _ ws _ h.written)
      (functions, h.bounded.0, refl, (limits.calls, h.bounded.1.0, refl, (limits.region, h.bounded.1.1, refl, refl)))
  of_genrun c h = absurd (other_key (codes "genrun") ws c refl h)

  pub of_exec : (c : Command) → IsWordsOf c (codes "exec" ∷ ws) → ExecForm ws c
  of_exec (exec code function limits words) h =
      subst (λ (us : List (List ℕ)). ExecForm us (exec code function limits words)) (behind _ ws _ h.written)
      (limits.calls, h.bounded.0.0, refl, (limits.region, h.bounded.0.1, refl, (words, h.bounded.1, refl, refl)))
  of_exec c h = absurd (other_key (codes "exec") ws c refl h)

  pub of_value : (c : Command) → IsWordsOf c (codes "value" ∷ ws) → ValueForm ws c
  of_value (value file second) h = subst (λ (us : List (List ℕ)). ValueForm us (value file second)) (behind _ ws _ h.written) refl
  of_value c h = absurd (other_key (codes "value") ws c refl h)

  pub of_peek : (c : Command) → IsWordsOf c (codes "peek" ∷ ws) → PeekForm ws c
  of_peek (peek file second path) h =
      subst (λ (us : List (List ℕ)). PeekForm us (peek file second path)) (behind _ ws _ h.written) (path, h.bounded, refl, refl)
  of_peek c h = absurd (other_key (codes "peek") ws c refl h)

-- Words as a whole --------------------------------------------------------------------------

never_empty : (c : Command) → [] ≡ command_words c → ⊥
never_empty (check file) e = absurd (cc e)
never_empty (layout file) e = absurd (cc e)
never_empty (compile file) e = absurd (cc e)
never_empty (run file limits values) e = absurd (cc e)
never_empty (image file limits values) e = absurd (cc e)
never_empty (count file limits values) e = absurd (cc e)
never_empty (gen functions) e = absurd (cc e)
never_empty (genrun functions limits) e = absurd (cc e)
never_empty (exec code function limits words) e = absurd (cc e)
never_empty (value file second) e = absurd (cc e)
never_empty (peek file second path) e = absurd (cc e)

choose : (w key : List ℕ) (ws : List (List ℕ)) (Q : List (List ℕ) → Command → Type 0) (p q : Parsed)
    → ((us : List (List ℕ)) (c : Command) → Q us c → IsWordsOf c (key ∷ us)) → ((us : List (List ℕ)) (c : Command) → IsWordsOf c (key ∷ us) → Q us c)
    → Reads Q 2 ws p → ((w ≡ key → ⊥) → Reads Written 1 (w ∷ ws) q) → Reads Written 1 (w ∷ ws) (if bytes_eq w key then p else q)
choose w key ws Q p q to of here others = by_test (bytes_eq w key) refl where
  by_test : (b : Bool) → bytes_eq w key ≡ b → Reads Written 1 (w ∷ ws) (if b then p else q)
  by_test true e = subst (λ (v : List ℕ). Reads Written 1 (v ∷ ws) p) (sym (is_key w key e)) (later Written Q 1 key ws p to of here)
  by_test false e = others (not_key w key e)

some_written : Inhabited Written
some_written = (codes "check" ∷ [] ∷ [], check [], record { bounded = tt; written = refl })

module _ (w : List ℕ) (ws : List (List ℕ)) (check_not : w ≡ codes "check" → ⊥) (layout_not : w ≡ codes "layout" → ⊥) (compile_not : w ≡ codes "compile" → ⊥)
    (run_not : w ≡ codes "run" → ⊥) (image_not : w ≡ codes "image" → ⊥) (count_not : w ≡ codes "count" → ⊥) (gen_not : w ≡ codes "gen" → ⊥)
    (genrun_not : w ≡ codes "genrun" → ⊥) (exec_not : w ≡ codes "exec" → ⊥) (value_not : w ≡ codes "value" → ⊥)
    (peek_not : w ≡ codes "peek" → ⊥) where
  no_key : (c : Command) → w ≡ key_of c → ⊥
  no_key (check file) e = check_not e
  no_key (layout file) e = layout_not e
  no_key (compile file) e = compile_not e
  no_key (run file limits values) e = run_not e
  no_key (image file limits values) e = image_not e
  no_key (count file limits values) e = count_not e
  no_key (gen functions) e = gen_not e
  no_key (genrun functions limits) e = genrun_not e
  no_key (exec code function limits words) e = exec_not e
  no_key (value file second) e = value_not e
  no_key (peek file second path) e = peek_not e

  unknown : Reads Written 1 (w ∷ ws) (Err 1)
  unknown = first_stops Written 1 w ws some_written (λ us c h. no_key c (begun c w us h.written))

reads_command : (words : List (List ℕ)) → Reads Written 1 words (command_of words)
unfolding command_of
reads_command [] = short_stops Written 1 some_written (λ c h. never_empty c h.written)
reads_command (w ∷ ws) =
    choose w _ ws (FileForm check) _ _ (to_file check _ (λ file. record { bounded = tt; written = refl })) of_check (reads_file check ws) (λ n0.
    choose w _ ws (FileForm layout) _ _ (to_file layout _ (λ file. record { bounded = tt; written = refl })) of_layout (reads_file layout ws) (λ n1.
    choose w _ ws (FileForm compile) _ _ (to_file compile _ (λ file. record { bounded = tt; written = refl })) of_compile (reads_file compile ws) (λ n2.
    choose w _ ws (CallForm run) _ _ (to_call run _ (λ file limits values fine. record { bounded = fine; written = refl })) of_run (reads_call run ws) (λ n3.
    choose w _ ws (CallForm image) _ _ (to_call image _ (λ file limits values fine. record { bounded = fine; written = refl })) of_image (reads_call image ws) (λ n4.
    choose w _ ws (CallForm count) _ _ (to_call count _ (λ file limits values fine. record { bounded = fine; written = refl })) of_count (reads_call count ws) (λ n5.
    choose w _ ws GenForm _ _ to_gen of_gen (reads_gen ws) (λ n6.
    choose w _ ws GenRunForm _ _ to_genrun of_genrun (reads_genrun ws) (λ n7.
    choose w _ ws ExecForm _ _ to_exec of_exec (reads_exec ws) (λ n8.
    choose w _ ws ValueForm _ _ to_value of_value (reads_value ws) (λ n9.
    choose w _ ws PeekForm _ _ to_peek of_peek (reads_peek ws) (λ n10.
    unknown w ws n0 n1 n2 n3 n4 n5 n6 n7 n8 n9 n10)))))))))))

-- what is read is what the words come to
pub is_parsed : (words : List (List ℕ)) → IsParsed words (command_of words)
is_parsed words = of (command_of words) (reads_command words) where
  of : (r : Parsed) → Reads Written 1 words r → IsParsed words r
  of (Ok c) h = h
  of (Err m) h =
      let s = h.2 in
      record { good = h.0; number = omega (arith, h.1); stops = record { within = s.within; before = s.before; here = s.here; at_end = s.at_end } }

-- and what a parser answers by it
pub parsed_words : (words : List (List ℕ)) (r : Result declared.Command CommandFault) → MatchResult r (λ c. command_of words ≡ Ok (command_view c)) (StopsAs (command_of words))
    → MatchResult r (λ c. IsWordsOf (command_view c) words) (IsUsage words)
parsed_words words (Ok c) h = subst (λ (p : Parsed). IsParsed words p) h (is_parsed words)
parsed_words words (Err (fault.Usage n)) h = subst (λ (p : Parsed). IsParsed words p) h (is_parsed words)
parsed_words words (Err fault.Memory) h = tt
