use Rattle.std.proofs.Common.{◌≡◌, ◌≤◌, true, sym, ◌∙◌, arith}
use Rattle.std.proofs.lemmas.Bool.Decides.{nat_tests}
use Rattle.rb_values.specs.Terms.{term_nodes}
use Rattle.rb_values.proofs.ReadLemmas.{whole-term, settled-whole, finished}
use Rattle.rb_values.proofs.read.finish.Goals as goal

pub returns-then-outline-limit : goal.returns-then-outline-limit
returns-then-outline-limit c ty s e k =
    let y : c.is_whole.result ≡ true = grind (arith, nat_tests, c.if-not-is_whole.false) in
    let r = whole-term s c.args.outline e (sym c.is_whole.ensures ∙ y) in
    (r.0, r.1, omega (arith, r.2, c.if-outline-limit.true))

pub returns-in_ok-settle-in-Some : goal.returns-in_ok-settle-in-Some
returns-in_ok-settle-in-Some c ty s e k =
    let y : c.is_whole.result ≡ true = grind (arith, nat_tests, c.if-not-is_whole.false) in
    let r = whole-term s c.args.outline e (sym c.is_whole.ensures ∙ y) in
    let st = c.in_ok-settle-in-Some.ensures ty s (rw c.in-Some.is at k) in
    let f = c.finish.ensures c.args.types.now ty r.0 (rw (settled-whole s r.0 r.1) at st) in
    let n : term_nodes r.0 ≤ c.args.limit = omega (arith, r.2, c.if-outline-limit.false) in
    finished c.args.types.now ty c.args.limit c.args.len s r.0 c.finish.result r.1 n f
