-- What stands at a location, as data from which code is made. A location begins at a range of bits of a word, and
-- each of its steps takes an address from the range before it and loads a word from there. A read is a number that
-- code can make from slots and loads; a span is a range of bits of a read, with the most bits that the read can have,
-- where that is known.
use Rattle.std.specs.Prelude.{◌≡◌, ℕ, ◌^◌, ◌<◌, ◌==◌, ◌&&◌, if◌then◌else◌, Bool, true, false, List, [], ◌∷◌, Option, Some, None, slice_get}
use Rattle.rb_core.specs.declared.layout_decl.Loc.{Loc}
use Rattle.rb_core.specs.declared.layout_decl.Step.{Step}
use Rattle.rb_bits.specs.Words.{IsRange, take_of}
use Rattle.rb_bytes.specs.Memory.{Memory}
use Rattle.rb_fragment.specs.Reads.{mean, fits}
use Rattle.rb_fragment.specs.declared.reads.Read.{Read, Slot, Number, Address, Loaded}
use Rattle.rb_compose.specs.Counts.{capped_bits}
use Rattle.rb_fetch.specs.declared.span.Span.{Span}

-- w has at most so many bits as the width says; any number where no width is given
abbrev pub FitsWidth : Option ℕ → ℕ → Type 0
FitsWidth None w = Unit {0}
FitsWidth (Some width) w = w < 2 ^ width

-- x is the bits of span p over slots s and memory m: its range of the word that its read means, no wider than p says
pub record Spans (p : Span) (s : List ℕ) (m : Memory) (x : ℕ) : Type 0 where
  pub word : ℕ
  pub is_word : mean p.read s m ≡ Some word
  pub small : FitsWidth p.width word
  pub are_bits : x ≡ take_of word p.o p.l

-- Whatever the slots and the memory are, one range is what the other one is, and can be made where that can.
pub record IsSameRange (p q : Span) : Type 0 where
  pub long : q.l ≡ p.l
  pub range : IsRange p.o p.l → IsRange q.o q.l
  pub fit : (k : ℕ) → fits k p.read ≡ true → fits k q.read ≡ true
  pub means : (s : List ℕ) (m : Memory) (x : ℕ) → Spans p s m x → Spans q s m x
  pub origin : (width x : ℕ) → q.width ≡ Some width → q.read ≡ Slot x → p.read ≡ Slot x

-- Whatever the slots and the memory are, the read means the range, and can be made where that can. It is a word in
-- a slot only where that word is the range's.
pub record ReadsRange (p : Span) (read : Read) : Type 0 where
  pub fit : (k : ℕ) → fits k p.read ≡ true → IsRange p.o p.l → fits k read ≡ true
  pub means : (s : List ℕ) (m : Memory) (x : ℕ) → IsRange p.o p.l → Spans p s m x → mean read s m ≡ Some x
  pub origin : (x : ℕ) → read ≡ Slot x → (width : ℕ) × (p.width ≡ Some width) × (p.read ≡ Slot x)

-- whether l bits from bit o on are all bits of a word of this width; never where no width is given
abbrev pub is_all : Option ℕ → ℕ → ℕ → Bool
is_all None o l = false
is_all (Some width) o l = (o == 0) && (l == width)

-- how many bits of a slot are taken for l bits of a word from bit o on: 64, all of it, where the word has no others
abbrev pub reach : Option ℕ → ℕ → ℕ → ℕ
reach width o l = if is_all width o l then 64 else l

-- the range to which a step leads from range p: p is the address, and the step says which word is loaded from there
-- and which bits of it are taken
abbrev pub step_span : Span → Step → Span
step_span p s = record {
  read = Loaded (Address p.read (capped_bits p.o) (capped_bits (reach p.width p.o p.l)) s.align) s.byte
      (capped_bits s.width);
  width = Some s.width;
  o = s.o;
  l = s.l;
}

-- the range to which steps lead from range p, one after the other; p itself without steps
abbrev pub span_on : Span → List Step → Span
span_on p [] = p
span_on p (s ∷ steps) = span_on (step_span p s) steps

-- the read, or the number 0 where there is none
abbrev pub read_or : Option Read → Read
read_or None = Number 0
read_or (Some r) = r

-- the range at which a location begins: its bits of the word, of this width, that it names among the words
abbrev pub first_span : List Read → Option ℕ → Loc → Span
first_span words width loc = record { read = read_or (slice_get words loc.word); width = width; o = loc.o; l = loc.l }

-- the span is the range to which a location leads from its word among the words, which is of this width
pub record SpansLoc (words : List Read) (width : Option ℕ) (loc : Loc) (span : Span) : Type 0 where
  pub first : Span
  pub begins : IsSameRange (first_span words width loc) first
  pub ends : span ≡ span_on first loc.steps
