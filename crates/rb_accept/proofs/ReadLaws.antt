-- What a read of a file with its limit tells of what is held, and of what was handed out.
use Rattle.std.proofs.Common.{◌≡◌, ◌≢◌, ℕ, ◌+◌, ◌<◌, ◌≤◌, leb, List, [], ◌∷◌, ◌++◌, length, take, drop, refl, sym, ap, subst, ◌∙◌, arith, length-take, append-nil, IsTrue, Bool, true, false, Option, Some, None, Ok, Err, if◌then◌else◌}
use Rattle.std.proofs.lemmas.Bool.{leb-true, le-leb, lt-leb}
use Rattle.std.proofs.lemmas.List.{take_all}
use Rattle.std.specs.Option.{option_map}
use Rattle.rb_edge.specs.History.{Reading, Course, going, ended, failed}
use Rattle.rb_edge.specs.Source.{FailsToOpen}
use Rattle.rb_edge.specs.Whole.{ReadsOnce, course_by}
use Rattle.rb_edge.specs.declared.whole.SourceFault.{SourceFault}
use Rattle.rb_edge.specs.declared.whole.SourceFault.TheVariants as fault
use Rattle.rb_accept.specs.Reading.{HeldFiles, Source, source_of, IsReading, ReadsInTurn, AreInTurn, handed_out, whole}

-- Readings that came behind others ----------------------------------------------------------

pub behind : (xs ys : List Reading) → drop (length xs) (xs ++ ys) ≡ ys
behind [] ys = refl
behind (x ∷ xs) ys = behind xs ys

pub one_behind : (old new : List Reading) (r : Reading) → new ≡ old ++ r ∷ [] → drop (length old) new ≡ r ∷ []
one_behind old new r is = ap (λ (rs : List Reading). drop (length old) rs) is ∙ behind old (r ∷ [])

pub none_behind : (old : List Reading) → drop (length old) old ≡ []
none_behind old = ap (λ (rs : List Reading). drop (length old) rs) (sym (append-nil old)) ∙ behind old []

pub one_in_turn : (source : Source) (name : List ℕ) (limit : ℕ) (r : Reading) → source.new ≡ source.old ++ r ∷ [] → IsReading source name limit r
    → ReadsInTurn ((name, limit) ∷ []) source
one_in_turn source name limit r is reading =
    let one : handed_out source ≡ r ∷ [] = one_behind source.old source.new r is in
    record {
      grew = is ∙ ap (λ (rs : List Reading). source.old ++ rs) (sym one);
      in_turn = subst (λ (rs : List Reading). AreInTurn source ((name, limit) ∷ []) rs) (sym one) (reading, tt);
    }

-- a call that reads nothing
pub none_in_turn : (source : Source) (files : List (List ℕ × ℕ)) → source.new ≡ source.old → ReadsInTurn files source
none_in_turn source files same =
    let none : handed_out source ≡ [] = ap (λ (rs : List Reading). drop (length source.old) rs) same ∙ none_behind source.old in
    record {
      grew = same ∙ sym (append-nil source.old) ∙ ap (λ (rs : List Reading). source.old ++ rs) (sym none);
      in_turn = subst (λ (rs : List Reading). AreInTurn source files rs) (sym none) tt;
    }

-- Files within a limit ----------------------------------------------------------------------

inside : Option (List ℕ) → List ℕ
inside None = []
inside (Some xs) = xs

pub some_same : {xs ys : List ℕ} → Some xs ≡ Some ys → xs ≡ ys
unfolding inside
some_same e = ap inside e

-- a front within the limit is all
pub seen_whole : (limit : ℕ) (o : Option (List ℕ)) (bytes : List ℕ) → Some bytes ≡ option_map (λ front. take (limit + 1) front) o → length bytes ≤ limit → o ≡ Some bytes
seen_whole limit None bytes e short = absurd (cc e)
seen_whole limit (Some all) bytes e short =
    let same : bytes ≡ take (limit + 1) all = some_same e in
    let cut : length (take (limit + 1) all) ≤ limit = subst (λ (xs : List ℕ). length xs ≤ limit) same short in
    let long = length-take (limit + 1) all in
    ap (λ (xs : List ℕ). Some xs) (sym (same ∙ take_all (limit + 1) all (omega (arith, cut, long))))

-- Courses -----------------------------------------------------------------------------------

as_number : Course → ℕ
as_number going = 0
as_number ended = 1
as_number failed = 2

pub going≢ended : going ≢ ended
unfolding as_number
going≢ended e = let n = ap as_number e in omega (arith, n)

pub failed≢ended : failed ≢ ended
unfolding as_number
failed≢ended e = let n = ap as_number e in omega (arith, n)

pub going≢failed : going ≢ failed
unfolding as_number
going≢failed e = let n = ap as_number e in omega (arith, n)

pub ended≢failed : ended ≢ failed
unfolding as_number
ended≢failed e = let n = ap as_number e in omega (arith, n)

-- what was read within its limit or cut did not fail
pub read_unfailed : (b : Bool) → (if b then ended else going) ≢ failed
read_unfailed true e = ended≢failed e
read_unfailed false e = going≢failed e

pub ended_true : (b : Bool) → (if b then ended else going) ≡ ended → b ≡ true
ended_true true e = refl
ended_true false e = absurd (going≢ended e)

-- A read of a file with its limit -----------------------------------------------------------

-- a reading by its parts
remade : (r : Reading) (name : List ℕ) (course : Course) → r.name ≡ name → r.course ≡ course → r ≡ record { name = name; bytes = r.bytes; course = course }
remade r name course named is =
    ap (λ (n : List ℕ). record { name = n; bytes = r.bytes; course = r.course }) named ∙ ap (λ (c : Course). record { name = name; bytes = r.bytes; course = c }) is

module _ {S : Type 0} (tells : S → Bool) (held : S → HeldFiles) (readings : S → List Reading) (faults : S → ℕ) (old new : S) (name : List ℕ) (limit : ℕ) where
  abbrev source : Source
  source = source_of tells held readings faults old new

  module _ (bytes : List ℕ) (once : ReadsOnce tells held readings old new name limit (Ok bytes)) where
    course_is : once.reading.course ≡ (if leb (length bytes) limit then ended else going)
    course_is = ap (λ (r : Reading). r.course) once.given

    pub turn_ok : (IsTrue (tells old) → Some bytes ≡ option_map (λ front. take (limit + 1) front) (held old name)) → ReadsInTurn ((name, limit) ∷ []) source
    turn_ok told = one_in_turn source name limit once.reading once.one_more (record {
      named = once.named;
      taken = once.within;
      front = once.held_so;
      all = λ t end.
          seen_whole limit (held old name) bytes (told t) (leb-true (length bytes) limit (ended_true (leb (length bytes) limit) (sym course_is ∙ end)))
          ∙ ap (λ (r : Reading). Some r.bytes) (sym once.given);
      cause = λ fails. absurd (read_unfailed (leb (length bytes) limit) (sym course_is ∙ fails));
    })

    read_as : (b : Bool) → leb (length bytes) limit ≡ b
        → drop (length (readings old)) (readings new) ≡ record { name = name; bytes = bytes; course = if b then ended else going } ∷ []
    read_as b is = one_behind (readings old) (readings new) once.reading once.one_more ∙ ap (λ (r : Reading). r ∷ []) once.given
        ∙ ap (λ (c : Bool). record { name = name; bytes = bytes; course = if c then ended else going } ∷ []) is

    pub whole_read : length bytes ≤ limit → drop (length (readings old)) (readings new) ≡ whole name bytes ∷ []
    whole_read short = read_as true (le-leb (length bytes) limit short)

    pub long_read : limit < length bytes → drop (length (readings old)) (readings new) ≡ record { name = name; bytes = bytes; course = going } ∷ []
    long_read long = read_as false (lt-leb (length bytes) limit long)

  stopped : (f : SourceFault) (r : Reading) → r.course ≡ course_by f → (f ≡ fault.Failed → FailsToOpen tells held faults old new name)
      → (r.course ≢ ended) × (r.course ≡ failed → FailsToOpen tells held faults old new name)
  stopped fault.Failed r is cause = (λ end. failed≢ended (sym is ∙ end), λ fails. cause refl)
  stopped fault.Memory r is cause = (λ end. going≢ended (sym is ∙ end), λ fails. absurd (going≢failed (sym is ∙ fails)))

  pub turn_err : (f : SourceFault) → ReadsOnce tells held readings old new name limit (Err f)
      → (f ≡ fault.Failed → FailsToOpen tells held faults old new name) → ReadsInTurn ((name, limit) ∷ []) source
  turn_err f once cause =
      let how = stopped f once.reading once.stopped cause in
      one_in_turn source name limit once.reading once.one_more (record {
        named = once.named;
        taken = once.within;
        front = once.held_so;
        all = λ t end. absurd (how.0 end);
        cause = how.1;
      })

  pub failed_read : (once : ReadsOnce tells held readings old new name limit (Err fault.Failed))
      → drop (length (readings old)) (readings new) ≡ record { name = name; bytes = once.reading.bytes; course = failed } ∷ []
  failed_read once = one_behind (readings old) (readings new) once.reading once.one_more ∙ ap (λ (r : Reading). r ∷ []) (remade once.reading name failed once.named once.stopped)
