use Rattle.rb_layout.specs.Positions.{open_positions}
use Rattle.rb_agree.specs.Written.{shown_part}
use Rattle.rb_agree.proofs.PartLists.{not-placed}
use Rattle.rb_agree.proofs.parts.part_fault.Goals as goal

pub returns-then-not-is_placed : goal.returns-then-not-is_placed
returns-then-not-is_placed c =
    not-placed c.args.decls.now (open_positions c.args.types.now c.args.prov.now) c.args.width (shown_part c.args.part.now)
    (λ placed. absurd (cc (c.if-not-is_placed.ensures.1 placed)))
