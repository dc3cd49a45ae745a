use Rattle.std.proofs.Common.{ap}
use Rattle.rb_layout.specs.Items.{content_paths}
use Rattle.rb_layout.specs.Positions.{open_positions}
use Rattle.rb_agree.specs.declared.items.Content.{Content}
use Rattle.rb_agree.specs.Written.{shown_content}
use Rattle.rb_agree.proofs.Holding.{path-found}
use Rattle.rb_agree.proofs.held.content_fault.Goals as goal

pub returns-in-Whole : goal.returns-in-Whole
returns-in-Whole c =
    path-found (open_positions c.args.types.now c.args.prov.now) c.in-Whole.path (content_paths (shown_content c.args.content.now))
    (ap (λ (x : Content). content_paths (shown_content x)) c.in-Whole.is) c.path_fault.result c.path_fault.ensures

pub returns-in-Slice : goal.returns-in-Slice
returns-in-Slice c =
    path-found (open_positions c.args.types.now c.args.prov.now) c.in-Slice.path (content_paths (shown_content c.args.content.now))
    (ap (λ (x : Content). content_paths (shown_content x)) c.in-Slice.is) c.path_fault-in-Slice.result c.path_fault-in-Slice.ensures

pub returns-in-WordOf : goal.returns-in-WordOf
returns-in-WordOf c =
    path-found (open_positions c.args.types.now c.args.prov.now) c.in-WordOf.path (content_paths (shown_content c.args.content.now))
    (ap (λ (x : Content). content_paths (shown_content x)) c.in-WordOf.is) c.path_fault-in-WordOf.result c.path_fault-in-WordOf.ensures
