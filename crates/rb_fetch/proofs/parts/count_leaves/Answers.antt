use Rattle.std.proofs.Common.{length, refl, sym}
use Rattle.std.proofs.lemmas.Option.{slice_get_read}
use Rattle.rb_fetch.proofs.parts.count_leaves.Goals as goal

pub returns-in-Some : goal.returns-in-Some
returns-in-Some c =
    let layouts = c.args.layouts.now in
    (c.in-Some.layout.now, slice_get_read layouts (length layouts) c.args.ty c.in-Some.layout.now refl c.in-Some.ensures.lookup.3.0 c.in-Some.ensures.lookup.1, sym c.len.ensures)
