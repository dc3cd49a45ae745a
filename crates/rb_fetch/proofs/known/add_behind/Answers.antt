use Rattle.rb_fetch.proofs.HeadForms.{none_behind, some_behind}
use Rattle.rb_fetch.proofs.known.add_behind.Goals as goal

pub returns-in-None : goal.returns-in-None
returns-in-None c = none_behind c.args.out.now _ c.args.place.now.con (rw (c.in-None.is, c.as_slice.ensures) at c.behind.ensures)

pub returns-in_ok-push-in-Some : goal.returns-in_ok-push-in-Some
returns-in_ok-push-in-Some c =
    some_behind c.args.out.now c.push.new.self _ c.in_ok-path-in-Some.path c.in-Some.rest.now c.args.place.now.con (rw c.as_slice.ensures at c.in-Some.ensures) c.in_ok-path-in-Some.ensures c.in_ok-push-in-Some.ensures.ok
