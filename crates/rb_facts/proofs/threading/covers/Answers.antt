use Rattle.std.proofs.Common.{◌≡◌, length, arith}
use Rattle.rb_facts.proofs.Shown.{covers}
use Rattle.rb_facts.proofs.threading.covers.Goals as goal

pub returns-else-len : goal.returns-else-len
returns-else-len c holds =
    let same : c.in-Con.con.con ≡ c.in-Con-pat.other.con = omega (arith, c.if-con-other.false) in
    let count : length c.in-Con.fields ≡ length c.in-Con-pat.subs = omega (arith, c.if-len.false, c.len.ensures, c.len-else-con-other.ensures) in
    covers c.args.leaf.now.prov c.args.pat.now c.in-Con.field-0 c.in-Con-pat.field-0 c.in-Con.con c.in-Con-pat.other c.in-Con.fields c.in-Con-pat.subs c.in-Con.is c.in-Con-pat.is
    same count (rw c.as_slice.ensures at (c.are_wild.ensures holds))
