use Rattle.std.proofs.Common.{◌≡◌, ◌+◌, ◌*◌, ℕ, List, reverse}
use denote.Param.Weighed.{most}
use Rattle.rb_core.specs.declared.layout_decl.LayItem.{size-LayItem}
use Rattle.rb_core.specs.declared.layout_decl.PartKind.{size-PartKind}
use Rattle.rb_core.specs.declared.layout_decl.PartDecl.{size-PartDecl}
use Rattle.rb_syntax.specs.Written.{Written, tokens_in}
use Rattle.rb_syntax.specs.Spelling.{lay_item_written, part_written}
use Rattle.rb_syntax.proofs.ListLemmas.{parts_from}
use Rattle.rb_syntax.proofs.spell.layout.+item.Given as goal

abbrev pub decreases-put_item : goal.decreases-put_item
decreases-put_item l = 4 * size-LayItem l.item.now + 1

abbrev pub decreases-put_kind : goal.decreases-put_kind
decreases-put_kind l = 4 * size-PartKind l.kind.now + 1

abbrev pub decreases-put_parts : goal.decreases-put_parts
decreases-put_parts l = 4 * most size-PartDecl l.parts.now + 2

abbrev pub decreases-put_items : goal.decreases-put_items
decreases-put_items l = 4 * most size-LayItem l.items.now + 2

-- the parts from i on are written
abbrev pub invariant-put_parts-loop-i : goal.invariant-put_parts-loop-i
invariant-put_parts-loop-i l = (level : ℕ) (rest : List Written) → reverse l.initial.out.items ≡ tokens_in rest
    → reverse l.out.items ≡ tokens_in (parts_from part_written level l.parts l.i rest)

-- the items from i on are written
abbrev pub invariant-put_items-loop-i : goal.invariant-put_items-loop-i
invariant-put_items-loop-i l = (level : ℕ) (rest : List Written) → reverse l.initial.out.items ≡ tokens_in rest
    → reverse l.out.items ≡ tokens_in (parts_from lay_item_written level l.items l.i rest)
