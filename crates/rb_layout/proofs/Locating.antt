-- The loops that follow a location.
use Rattle.std.proofs.Common.{◌≡◌, ℕ, ◌+◌, ◌/◌, ◌<◌, ◌≤◌, ◌==◌, ◌&&◌, List, [], ◌∷◌, drop, length, get_or, Bool, false, Option, Some, None, refl, sym, ap, ◌∙◌, add-one, drop-cons}
use Rattle.std.specs.Prelude.{if◌then◌else◌}
use Rattle.std.specs.Option.{option_or}
use Rattle.std.proofs.lemmas.Option.{slice_get-get_or, slice_get_past}
use Rattle.rb_layout.specs.declared.layout.FlatWord.{FlatWord}
use Rattle.rb_layout.specs.declared.layout.Part.{Part}
use Rattle.rb_layout.specs.declared.layout.Leaf.{Leaf}
use Rattle.rb_core.specs.declared.layout_decl.Step.{Step}
use Rattle.rb_layout.specs.declared.layout.WordRef.{WordRef}
use Rattle.rb_layout.specs.Words.{flat_at, bytes_taken}
use Rattle.rb_layout.specs.declared.locate.End.{End}
use Rattle.rb_layout.specs.Locations.{Reached, pointed_in, block_in, pointer_block, word_beginning, next_ref, range_in, resolve_from, reached_at, ref_of}
use Rattle.rb_layout.specs.inner.Ends.{end_of}
use Rattle.rb_core.specs.declared.layout_decl.Loc.{Loc}
use Rattle.rb_layout.specs.Readable.{AreShort}

pub block-from : (ps : List Part) (k o l align : ℕ) (d : Part) → k < length ps
    → block_in (drop k ps) o l align ≡ option_or (pointed_in (get_or ps k d) o l align) (block_in (drop (k + 1) ps) o l align)
block-from ps k o l align d lt = rw (add-one, drop-cons ps k d) refl

pub word-from : (fs : List FlatWord) (k start byte width j : ℕ) (d : FlatWord) → k < length fs
    → word_beginning (drop k fs) start byte width j
    ≡ (if (start == byte) && ((get_or fs k d).width == width) then Some j else word_beginning (drop (k + 1) fs) (start + (get_or fs k d).width / 8) byte width (j + 1))
word-from fs k start byte width j d lt = rw (add-one, drop-cons fs k d) refl

pub step-from : (leaf : Leaf) (r : WordRef) (o l : ℕ) (steps : List Step) (k : ℕ) (d : Step) → k < length steps
    → resolve_from leaf (Some r) o l (drop k steps)
    ≡ resolve_from leaf (next_ref leaf (pointer_block (flat_at leaf r) o l (get_or steps k d).align) (get_or steps k d)) (get_or steps k d).o (get_or steps k d).l (drop (k + 1) steps)
step-from leaf r o l steps k d lt = rw (add-one, drop-cons steps k d) refl

pub word-past : (fs : List FlatWord) (k start byte width j : ℕ) (d : FlatWord) → k < length fs → d ≡ get_or fs k d → ((start == byte) && (d.width == width)) ≡ false
    → word_beginning (drop k fs) start byte width j ≡ word_beginning (drop (k + 1) fs) (start + d.width / 8) byte width (j + 1)
word-past fs k start byte width j d lt is not_it =
    word-from fs k start byte width j d lt
    ∙ ap (λ (x : FlatWord). if (start == byte) && (x.width == width) then Some j else word_beginning (drop (k + 1) fs) (start + x.width / 8) byte width (j + 1)) (sym is)
    ∙ ap (λ (b : Bool). if b then Some j else word_beginning (drop (k + 1) fs) (start + d.width / 8) byte width (j + 1)) not_it

pub short-width : (fs : List FlatWord) (k : ℕ) (d : FlatWord) → AreShort fs → k < length fs → d ≡ get_or fs k d → d.width ≤ 64
short-width fs k d short lt is = short.short k d (slice_get-get_or fs k d lt ∙ ap Some (sym is))

past_end : (leaf : Leaf) (r : WordRef) (o l : ℕ) (steps : List Step) → flat_at leaf r ≡ None → None ≡ end_of (resolve_from leaf (Some r) o l steps)
past_end leaf r o l [] e = ap (λ x. end_of (range_in x r o l)) (sym e)
past_end leaf r o l (s ∷ steps) e = ap (λ x. end_of (resolve_from leaf (next_ref leaf (pointer_block x o l s.align) s) s.o s.l steps)) (sym e)

pub none-past : (leaf : Leaf) (loc : Loc) → length leaf.root ≤ loc.word → None ≡ end_of (reached_at leaf loc)
none-past leaf loc le = past_end leaf (record { block = None; word = loc.word }) loc.o loc.l loc.steps (slice_get_past leaf.root loc.word le)

pub bytes-from : (fs : List FlatWord) (k : ℕ) (d : FlatWord) → k < length fs → bytes_taken (drop k fs) ≡ (get_or fs k d).width / 8 + bytes_taken (drop (k + 1) fs)
bytes-from fs k d lt = rw (add-one, drop-cons fs k d) refl

-- the reference of the end
abbrev pub ref_at : Option End → Option WordRef
ref_at None = None
ref_at (Some end) = Some end.at

pub ref_at-end : (x : Option Reached) → ref_of x ≡ ref_at (end_of x)
ref_at-end None = refl
ref_at-end (Some x) = refl

pub ruleset locating = (block-from, word-from, step-from, bytes-from)
