use Rattle.rb_matrix.proofs.Differing.{apart-where}
use Rattle.rb_matrix.proofs.apart.+comparing.Goals as goal

pub are_apart-returns-else-con-known : goal.are_apart-returns-else-con-known
are_apart-returns-else-con-known t c =
    apart-where c.in-Con.field-0 c.in-Con-other-2.field-0 c.in-Con.con c.in-Con-other-2.known c.in-Con.pats c.in-Con-other-2.others c.args.one.now c.args.other.now c.in-Con.is c.in-Con-other-2.is
    c.as_slice.result.now c.as_slice-in-Con-other-2.result.now c.as_slice.ensures c.as_slice-in-Con-other-2.ensures c.have_apart.result c.have_apart.ensures
