-- Words come to one thing: to one command, or to one word at fault.
use Rattle.std.proofs.Common.{◌≡◌, ◌<◌, ◌^◌, ℕ, suc, List, [], ◌∷◌, map, Ok, Err, refl, sym, ap, subst, ◌∙◌, arith}
use Rattle.std.specs.Fmt.{decimal}
use Rattle.std.specs.List.{All}
use Rattle.std.proofs.lemmas.Fmt.{decimal_injective}
use Rattle.std.proofs.lemmas.List.Elements.{All-head, All-tail}
use Rattle.rb_command.specs.Command.{Limits, Command, Parsed, AreLimits, IsWordsOf, AreCommand, IsParsed, command_words, check, layout, compile, run, image, count, gen, genrun, exec, value, peek}
use Rattle.rb_command.specs.Path.{path_text}
use Rattle.rb_command.specs.inner.Parsing.{command_of}
use Rattle.rb_command.proofs.Paths.{one_path}
use Rattle.rb_command.proofs.Stopping.{one_stop, stops_none}
use Rattle.rb_command.proofs.Worded.{of_check, of_layout, of_compile, of_run, of_image, of_count, of_gen, of_genrun, of_exec, of_value, of_peek, is_parsed}

-- One command -------------------------------------------------------------------------------

same_number : (n m : ℕ) → n < 2 ^ 64 → m < 2 ^ 64 → decimal n ≡ decimal m → n ≡ m
same_number n m small few e = decimal_injective n m small few e

same_numbers : (ns ms : List ℕ) → All (λ n. n < 2 ^ 64) ns → All (λ n. n < 2 ^ 64) ms → map decimal ns ≡ map decimal ms → ns ≡ ms
same_numbers [] [] small few e = refl
same_numbers [] (m ∷ ms) small few e = absurd (cc e)
same_numbers (n ∷ ns) [] small few e = absurd (cc e)
same_numbers (n ∷ ns) (m ∷ ms) small few e =
    let first : n ≡ m = same_number n m (All-head (λ n. n < 2 ^ 64) n ns small) (All-head (λ n. n < 2 ^ 64) m ms few) (cc) in
    let rest : ns ≡ ms = same_numbers ns ms (All-tail (λ n. n < 2 ^ 64) n ns small) (All-tail (λ n. n < 2 ^ 64) m ms few) (cc) in
    cc

abbrev limits_of : ℕ → ℕ → Limits
limits_of calls region = record { calls = calls; region = region }

same_limits : (limits : Limits) (calls region : ℕ) → AreLimits limits → AreLimits (record { calls = calls; region = region }) → decimal limits.calls ≡ decimal calls
    → decimal limits.region ≡ decimal region → limits ≡ record { calls = calls; region = region }
same_limits limits calls region fine good e f =
    let a : limits.calls ≡ calls = same_number limits.calls calls (omega (arith, fine.0.1)) (omega (arith, good.0.1)) e in
    let b : limits.region ≡ region = same_number limits.region region (omega (arith, fine.1.1)) (omega (arith, good.1.1)) f in
    ap (λ (n : ℕ). limits_of n limits.region) a ∙ ap (λ (n : ℕ). limits_of calls n) b

-- another command with the words of this one
one_command : (c d : Command) → IsWordsOf c (command_words c) → IsWordsOf d (command_words c) → c ≡ d
one_command (check file) d h k = sym (of_check (file ∷ []) d k)
one_command (layout file) d h k = sym (of_layout (file ∷ []) d k)
one_command (compile file) d h k = sym (of_compile (file ∷ []) d k)
one_command (run file limits values) d h k =
    let r = of_run (file ∷ decimal limits.calls ∷ decimal limits.region ∷ values) d k in
    let same = same_limits limits r.0 r.3.0 h.bounded (r.1, r.3.1) r.2 r.3.2 in
    ap (λ (l : Limits). run file l values) same ∙ sym r.3.3
one_command (image file limits values) d h k =
    let r = of_image (file ∷ decimal limits.calls ∷ decimal limits.region ∷ values) d k in
    let same = same_limits limits r.0 r.3.0 h.bounded (r.1, r.3.1) r.2 r.3.2 in
    ap (λ (l : Limits). image file l values) same ∙ sym r.3.3
one_command (count file limits values) d h k =
    let r = of_count (file ∷ decimal limits.calls ∷ decimal limits.region ∷ values) d k in
    let same = same_limits limits r.0 r.3.0 h.bounded (r.1, r.3.1) r.2 r.3.2 in
    ap (λ (l : Limits). count file l values) same ∙ sym r.3.3
one_command (gen functions) d h k =
    let r = of_gen (decimal functions ∷ []) d k in
    let same = same_number functions r.0 (omega (arith, h.bounded.1)) (omega (arith, r.1.1)) r.2 in
    ap gen same ∙ sym r.3
one_command (genrun functions limits) d h k =
    let r = of_genrun (decimal functions ∷ decimal limits.calls ∷ decimal limits.region ∷ []) d k in
    let alike = same_number functions r.0 (omega (arith, h.bounded.0.1)) (omega (arith, r.1.1)) r.2 in
    let same = same_limits limits r.3.0 r.3.3.0 h.bounded.1 (r.3.1, r.3.3.1) r.3.2 r.3.3.2 in
    ap (λ (n : ℕ). genrun n limits) alike ∙ ap (λ (l : Limits). genrun r.0 l) same ∙ sym r.3.3.3
one_command (exec code function limits words) d h k =
    let r = of_exec (code ∷ function ∷ decimal limits.calls ∷ decimal limits.region ∷ map decimal words) d k in
    let same = same_limits limits r.0 r.3.0 h.bounded.0 (r.1, r.3.1) r.2 r.3.2 in
    let alike = same_numbers words r.3.3.0 h.bounded.1 r.3.3.1 r.3.3.2 in
    ap (λ (l : Limits). exec code function l words) same ∙ ap (λ (ns : List ℕ). exec code function (record { calls = r.0; region = r.3.0 }) ns) alike ∙ sym r.3.3.3
one_command (value file second) d h k = sym (of_value (file ∷ second ∷ []) d k)
one_command (peek file second path) d h k =
    let r = of_peek (file ∷ second ∷ path_text path ∷ []) d k in
    ap (λ (p : List ℕ). peek file second p) (one_path path r.0 h.bounded r.1 r.2) ∙ sym r.3

-- One word at fault -------------------------------------------------------------------------

pub one_meaning : (words : List (List ℕ)) (p q : Parsed) → IsParsed words p → IsParsed words q → p ≡ q
one_meaning words (Ok c) (Ok d) h k =
    ap Ok (one_command c d (record { bounded = h.bounded; written = refl }) (subst (λ (ws : List (List ℕ)). IsWordsOf d ws) h.written k))
one_meaning words (Ok c) (Err m) h k = absurd (stops_none AreCommand words k.good k.stops (c, h))
one_meaning words (Err n) (Ok d) h k = absurd (stops_none AreCommand words h.good h.stops (d, k))
one_meaning words (Err n) (Err m) h k =
    let e : h.good ≡ k.good = one_stop AreCommand words h.good k.good h.stops k.stops in
    ap Err (h.number ∙ ap suc e ∙ sym k.number)

-- any words come to something
pub meaning : (words : List (List ℕ)) → (parsed : Parsed) × IsParsed words parsed
meaning words = (command_of words, is_parsed words)
