-- Locations as they are shown, such as `0[0:32] -> 4 @0:8[0:8]`.
use Rattle.std.specs.Prelude.{ℕ, List, ◌++◌, codes}
use Rattle.std.specs.Fmt.{decimal}
use Rattle.std.specs.List.{flat_map}
use Rattle.rb_core.specs.declared.layout_decl.Loc.{Loc}
use Rattle.rb_core.specs.declared.layout_decl.Step.{Step}

-- l bits from bit o on, as `o:l`
abbrev pub range_text : ℕ → ℕ → List ℕ
range_text o l = decimal o ++ codes ":" ++ decimal l

-- l bits from bit o on, as `[o:l]`
abbrev pub bits_text : ℕ → ℕ → List ℕ
bits_text o l = codes "[" ++ range_text o l ++ codes "]"

-- a step of a location: through a pointer of this alignment, to bits of the word of this width at this byte
abbrev pub step_text : Step → List ℕ
step_text s = codes " -> " ++ decimal s.align ++ codes " @" ++ range_text s.byte s.width ++ bits_text s.o s.l

-- a location: the number of a root word, a range of its bits, and the steps through pointers that follow
abbrev pub loc_text : Loc → List ℕ
loc_text loc = decimal loc.word ++ bits_text loc.o loc.l ++ flat_map step_text loc.steps
