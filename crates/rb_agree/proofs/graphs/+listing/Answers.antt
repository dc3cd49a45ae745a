use Rattle.std.proofs.lemmas.Result.{on_ok_weaker}
use Rattle.rb_agree.proofs.Relating.{types-added}
use Rattle.rb_agree.proofs.graphs.+listing.Goals as goal

pub add_types-returns-in_ok-push-in-Con : goal.add_types-returns-in_ok-push-in-Con
add_types-returns-in_ok-push-in-Con t c =
    on_ok_weaker c.add_all_types.result
    (λ rest. types-added c.args.pat.now c.in-Con.field-0 c.in-Con.con c.in-Con.pats c.as_slice.result.now c.args.row.now c.push.new.self c.add_all_types.new.row
    c.in-Con.is c.as_slice.ensures c.in_ok-push-in-Con.ensures.ok rest) c.add_all_types.ensures
