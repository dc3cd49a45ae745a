use Rattle.std.proofs.Common.{◌≡◌, min, length, drop, ap, sym, arith}
use Rattle.std.proofs.lemmas.Grind.{common_steps}
use Rattle.rb_edge.specs.MemSource.{open_file_bytes}
use Rattle.rb_edge.proofs.Files.{gives}
use Rattle.rb_edge.proofs.mem_source.MemSourceSource.read.Goals as goal

pub returns-clause-gives : goal.returns-clause-gives
returns-clause-gives c =
    let s = c.self.inside in
    let is_left : c.args.self.now.left ≡ drop s.at (open_file_bytes s.files s.opened) = ap (λ v. v.left) (sym c.self.view_is) in
    let left_len : length c.args.self.now.left ≡ length (drop s.at (open_file_bytes s.files s.opened)) = ap length is_left in
    let is_count : c.min-count.result ≡ min (min (length c.args.buf.now) s.step) (length c.args.self.now.left) = grind (arith, common_steps) in
    gives (open_file_bytes s.files s.opened) c.args.self.now.left c.args.buf.now c.copy_from_slice.new.self s.at c.min-count.result s.step
    c.self.invariant.1 c.self.invariant.0 is_left is_count (grind (arith, common_steps))
