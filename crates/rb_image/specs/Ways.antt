-- The parts of a leaf that hold what stands at a path or below it, and the pointers on the way to them. A part is a
-- range of a word of the leaf: a constant, bits or a word of a field, or a pointer to one of the leaf's blocks. A
-- path is a list of field numbers from the leaf's root. The parts behind a pointer are those of its block. A pointer
-- is refused where it leads to no block of the size that the leaf's block has, or, from within a block, not below
-- that block. m has the blocks of an image, ws are the words of the leaf's root, and ats the addresses of its blocks
-- by number, 0 for one that is not known.
use Rattle.std.specs.Prelude.{ℕ, nat_eq, ◌||◌, List, [], ◌∷◌, length, Bool, false, Option, Some, None, Result, Ok, Err, if◌then◌else◌}
use Rattle.std.specs.List.{list_any, starts_with}
use Rattle.std.specs.Option.{option_or}
use Rattle.rb_layout.specs.declared.layout.Kind.{Kind}
use Rattle.rb_layout.specs.declared.layout.Kind.TheVariants.{Const, Bits, Word, Pointer}
use Rattle.rb_layout.specs.declared.layout.Leaf.{Leaf}
use Rattle.rb_image_text.specs.declared.fault.ImageFault.{ImageFault}
use Rattle.rb_image_text.specs.declared.image.ImageBlock.{ImageBlock}
use Rattle.rb_image.specs.declared.kept.Kept.{Kept}
use Rattle.rb_image.specs.Orders.{LocatedPart, pointed_parts, block_order}
use Rattle.rb_image.specs.Parts.{bits_at, pointer_lead}

-- whether a part of this kind holds a word or bits of a field whose path begins with the given one
abbrev pub is_below : List ℕ → Kind → Bool
is_below path (Const c) = false
is_below path (Bits own a) = starts_with nat_eq own path
is_below path (Word own j) = starts_with nat_eq own path
is_below path (Pointer align b) = false

-- whether a part of this kind holds a word or bits of what stands at a path of the leaf or below it, or one of the
-- parts behind its pointer does
abbrev pub leads_below : Leaf → List ℕ → Kind → Bool
leads_below leaf path kind =
    is_below path kind || list_any (λ (s : LocatedPart). is_below path s.part.kind)
    (pointed_parts (block_order leaf (length leaf.blocks)) kind)

-- the fault of a result, none where it is no fault
abbrev pub fault_of : {A : Type 0} → Result A ImageFault → Option ImageFault
fault_of (Ok x) = None
fault_of (Err fault) = Some fault

-- the fault of a part with these bits, if it is a pointer that leads to no block of the size of the leaf's own, or,
-- from within a block, not below that; none for other parts
abbrev pub refusal_of : List ImageBlock → Leaf → Kept → Kind → Option ImageFault
refusal_of m leaf bits (Const c) = None
refusal_of m leaf bits (Bits path a) = None
refusal_of m leaf bits (Word path j) = None
refusal_of m leaf bits (Pointer align b) = fault_of (pointer_lead m leaf bits align b)

-- the fault of a part, if it is a pointer on the way to what stands at a path of the leaf or below it, and is
-- refused; else none
abbrev pub refused_at : List ImageBlock → Leaf → List Kept → List ℕ → List ℕ → LocatedPart → Option ImageFault
refused_at m leaf ws ats path s =
    if leads_below leaf path s.part.kind then refusal_of m leaf (bits_at m ws ats s) s.part.kind else None

-- the first fault among these parts of a leaf that are pointers on the way to what stands at a path of it or below;
-- none where none of them is refused
abbrev pub refused_below : List ImageBlock → Leaf → List Kept → List ℕ → List ℕ → List LocatedPart → Option ImageFault
refused_below m leaf ws ats path [] = None
refused_below m leaf ws ats path (s ∷ ss) =
    option_or (refused_at m leaf ws ats path s) (refused_below m leaf ws ats path ss)
