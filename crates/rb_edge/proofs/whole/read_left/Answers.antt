use Rattle.std.proofs.Common.{rules, ◌≡◌, ◌≤◌, ◌<◌, ◌+◌, ◌++◌, ℕ, List, [], take, length, Err, refl, sym, ap, ◌∙◌, arith, append_assoc, length-append, length-take}
use Rattle.std.proofs.lemmas.Result.{err_from_is_err_and}
use Rattle.rb_edge.specs.History.{longer_reading, on_last}
use Rattle.rb_edge.specs.declared.whole.SourceFault.TheVariants.{Memory, Failed}
use Rattle.rb_edge.proofs.Histories.{on_last_id, handed_none}
use Rattle.rb_edge.proofs.FaultLemmas.{Rose-earlier}
use Rattle.rb_edge.proofs.LeftLemmas.{same_still, stopped_by_fault, then_broken, then_more, then_ended, some_taken, stopped_full, front_added, front_full, front_whole}
use Rattle.rb_edge.proofs.whole.read_left.Goals as goal

pub loop-turn-init : goal.loop-turn-init
loop-turn-init g c = record {
  room = omega (arith, c.new-bytes.ensures.len);
  turns = omega arith;
  later = omega arith;
  same = record { tells_the_same = refl; holds_the_same = λ name. refl };
  read = λ t. rw c.new-bytes.ensures.items refl;
  on = rw c.new-bytes.ensures.items (on_last_id (longer_reading []) handed_none (g.S.Source.readings c.args.source.now));
}

pub returns-then-room-eq0-clause-bytes : goal.returns-then-room-eq0-clause-bytes
returns-then-room-eq0-clause-bytes g c = λ t. front_full (c.args.limit + 1) _ c.loop-turn.bytes.items _ (c.loop-turn.invariant.read t) (omega arith)

pub returns-then-room-eq0-clause-on : goal.returns-then-room-eq0-clause-on
returns-then-room-eq0-clause-on g c =
    stopped_full g.S.Source.tells g.S.Source.left g.S.Source.readings c.args.source.now c.loop-turn.source c.args.limit c.loop-turn.bytes
    (omega arith) c.loop-turn.invariant.read c.loop-turn.invariant.on

pub returns-in_err-count-clause-same : goal.returns-in_err-count-clause-same
returns-in_err-count-clause-same g c =
    same_still g.S.Source.tells g.S.Source.held c.args.source.now c.loop-turn.source c.read.new.self c.loop-turn.invariant.same c.in_err-count.ensures.same

pub returns-in_err-count-clause-cause : goal.returns-in_err-count-clause-cause
returns-in_err-count-clause-cause g c = λ failed.
    Rose-earlier (g.S.Source.faults c.args.source.now) (g.S.Source.faults c.loop-turn.source) (g.S.Source.faults c.read.new.self)
    c.loop-turn.invariant.later c.in_err-count.ensures.later c.in_err-count.ensures.cause

pub returns-in_err-count-clause-on : goal.returns-in_err-count-clause-on
returns-in_err-count-clause-on g c =
    let p = err_from_is_err_and c.from_residual.result c.from_residual.ensures.1 in
    let bytes = c.loop-turn.bytes.items in
    let within : length c.loop-turn.bytes.items ≤ c.args.limit + 1 = search rules in
    stopped_by_fault g.S.Source.tells g.S.Source.left g.S.Source.readings c.args.source.now c.read.new.self c.args.limit c.from_residual.result Failed
    (p.1 ∙ ap Err p.2) bytes within
    (λ t. c.loop-turn.invariant.read t ∙ ap (λ (xs : List ℕ). bytes ++ xs) (sym (c.in_err-count.ensures.err (rw c.loop-turn.invariant.same.tells_the_same t))))
    (then_broken c.args.limit bytes (g.S.Source.readings c.args.source.now) _ _ c.loop-turn.invariant.on c.in_err-count.ensures.broken)

pub returns-then-count-eq0-clause-same : goal.returns-then-count-eq0-clause-same
returns-then-count-eq0-clause-same g c =
    same_still g.S.Source.tells g.S.Source.held c.args.source.now c.loop-turn.source c.read.new.self c.loop-turn.invariant.same c.in_ok-count.ensures.same

pub returns-then-count-eq0-clause-bytes : goal.returns-then-count-eq0-clause-bytes
returns-then-count-eq0-clause-bytes g c = λ t.
    let roomy : 0 < length c.read.new.buf = search rules in
    let within : length c.loop-turn.bytes.items ≤ c.args.limit + 1 = search rules in
    let gave = c.in_ok-count.ensures.bytes (rw c.loop-turn.invariant.same.tells_the_same t) in
    front_whole (c.args.limit + 1) _ c.loop-turn.bytes.items _ (c.loop-turn.invariant.read t) ((gave.at_end roomy).0 c.if-count-eq0.true) within

pub returns-then-count-eq0-clause-on : goal.returns-then-count-eq0-clause-on
returns-then-count-eq0-clause-on g c =
    let bytes = c.loop-turn.bytes.items in
    let short : length c.loop-turn.bytes.items ≤ c.args.limit = search rules in
    let within : length c.loop-turn.bytes.items ≤ c.args.limit + 1 = search rules in
    record {
      bytes = bytes;
      within = within;
      left_so = λ t. c.loop-turn.invariant.read t ∙ ap (λ (xs : List ℕ). bytes ++ xs)
          ((c.in_ok-count.ensures.bytes (rw c.loop-turn.invariant.same.tells_the_same t)).bytes
          ∙ ap (λ (n : ℕ). take n c.read.new.buf ++ g.S.Source.left c.read.new.self) c.if-count-eq0.true);
      on = then_ended c.args.limit bytes (g.S.Source.readings c.args.source.now) _ _ c.loop-turn.invariant.on c.loop-turn.bytes _ c.in_ok-count.count c.read.new.buf
          c.in_ok-count.ensures.handed c.if-count-eq0.true short (search rules);
      given = refl {A = List ℕ};
    }

pub returns-in_err-extend_from_slice-clause-same : goal.returns-in_err-extend_from_slice-clause-same
returns-in_err-extend_from_slice-clause-same g c =
    same_still g.S.Source.tells g.S.Source.held c.args.source.now c.loop-turn.source c.read.new.self c.loop-turn.invariant.same c.in_ok-count.ensures.same

pub returns-in_err-extend_from_slice-clause-on : goal.returns-in_err-extend_from_slice-clause-on
returns-in_err-extend_from_slice-clause-on g c =
    let p = err_from_is_err_and c.from_residual-in_err-extend_from_slice.result c.from_residual-in_err-extend_from_slice.ensures.1 in
    let bytes = c.loop-turn.bytes.items in
    let more = take c.in_ok-count.count c.read.new.buf in
    let inside : c.in_ok-count.count ≤ length c.read.new.buf = search rules in
    let fits : length c.loop-turn.bytes.items + c.in_ok-count.count ≤ c.args.limit + 1 = search rules in
    let within : length (c.loop-turn.bytes.items ++ take c.in_ok-count.count c.read.new.buf) ≤ c.args.limit + 1 =
    omega (arith, fits, length-append bytes more, length-take c.in_ok-count.count c.read.new.buf) in
    stopped_by_fault g.S.Source.tells g.S.Source.left g.S.Source.readings c.args.source.now c.read.new.self c.args.limit c.from_residual-in_err-extend_from_slice.result Memory
    (p.1 ∙ ap Err p.2) (bytes ++ more) within
    (λ t. c.loop-turn.invariant.read t ∙ ap (λ (xs : List ℕ). bytes ++ xs) (c.in_ok-count.ensures.bytes (rw c.loop-turn.invariant.same.tells_the_same t)).bytes
    ∙ sym (append_assoc bytes more (g.S.Source.left c.read.new.self)))
    (then_more c.args.limit bytes (g.S.Source.readings c.args.source.now) _ _ c.loop-turn.invariant.on _ more c.in_ok-count.ensures.handed
    (some_taken c.in_ok-count.count c.read.new.buf c.if-count-eq0.false inside))

pub loop-turn-preserved : goal.loop-turn-preserved
loop-turn-preserved g c =
    let bytes = c.loop-turn.bytes.items in
    let more = take c.in_ok-count.count c.read.new.buf in
    let inside : c.in_ok-count.count ≤ length c.read.new.buf = search rules in
    let longer : c.extend_from_slice.new.self.items ≡ c.loop-turn.bytes.items ++ take c.in_ok-count.count c.read.new.buf =
    front_added c.in_ok-count.count _ bytes c.read.new.buf _ c.in_ok-extend_from_slice.ensures.items inside in
    record {
      room = search rules;
      turns = search rules;
      later = omega (arith, c.in_ok-count.ensures.later, c.loop-turn.invariant.later);
      same = same_still g.S.Source.tells g.S.Source.held c.args.source.now c.loop-turn.source c.read.new.self c.loop-turn.invariant.same c.in_ok-count.ensures.same;
      read = λ t. c.loop-turn.invariant.read t ∙ ap (λ (xs : List ℕ). bytes ++ xs) (c.in_ok-count.ensures.bytes (rw c.loop-turn.invariant.same.tells_the_same t)).bytes
          ∙ sym (append_assoc bytes more (g.S.Source.left c.read.new.self)) ∙ ap (λ (xs : List ℕ). xs ++ g.S.Source.left c.read.new.self) (sym longer);
      on = then_more c.args.limit bytes (g.S.Source.readings c.args.source.now) _ _ c.loop-turn.invariant.on _ more c.in_ok-count.ensures.handed
          (some_taken c.in_ok-count.count c.read.new.buf c.if-count-eq0.false inside) ∙ ap (λ (xs : List ℕ). on_last (longer_reading xs) (g.S.Source.readings c.args.source.now)) (sym longer);
    }

pub returns-clause-bytes : goal.returns-clause-bytes
returns-clause-bytes g c = λ t. front_full (c.args.limit + 1) _ c.loop-turn.bytes.items _ (c.loop-turn.invariant.read t) (omega arith)

pub returns-clause-on : goal.returns-clause-on
returns-clause-on g c =
    stopped_full g.S.Source.tells g.S.Source.left g.S.Source.readings c.args.source.now c.loop-turn.source c.args.limit c.loop-turn.bytes
    (omega arith) c.loop-turn.invariant.read c.loop-turn.invariant.on
