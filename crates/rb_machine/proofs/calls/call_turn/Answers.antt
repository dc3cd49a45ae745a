use Rattle.std.proofs.Common.{◌≡◌, ◌-◌, ◌++◌, ◌∷◌, [], ◌∙◌, ap, suc, refl, arith, length}
use Rattle.std.proofs.lemmas.Option.{slice_get_read}
use Rattle.rb_target.specs.Meaning.{first_slots, slots_at}
use Rattle.rb_machine.proofs.Turns.{call_turned, call_few, first_slots_is, waiting}
use Rattle.rb_machine.specs.inner.Turns.{current_slots}
use Rattle.rb_machine.proofs.calls.call_turn.Goals as goal

pub push_slots-requires-clause-few : goal.push_slots-requires-clause-few
push_slots-requires-clause-few c =
    let s = c.args.state.now in
    let funs = c.args.funs.now in
    let got = slice_get_read funs (length funs) c.args.callee c.index-funs-callee.result refl c.requires.known c.index-funs-callee.is in
    call_few funs c.args.depth c.requires.valid s.fun s.pc c.args.callee (current_slots s) c.requires.instr.0 c.args.froms.now c.index-funs-callee.result c.requires.sound.place c.requires.instr.1 got

pub returns : goal.returns
returns c m =
    let s = c.args.state.now in
    let funs = c.args.funs.now in
    let got = slice_get_read funs (length funs) c.args.callee c.index-funs-callee.result refl c.requires.known c.index-funs-callee.is in
    let base : c.len-top.result ≡ length s.stack.items = c.len-top.ensures ∙ s.stack.ok.0 in
    let stack : c.push_slots.new.stack.items ≡ s.stack.items ++ first_slots funs c.args.callee (slots_at (current_slots s) c.args.froms.now) =
    c.in_ok-push_slots.ensures ∙ ap (λ xs. s.stack.items ++ xs) (first_slots_is funs c.args.callee c.index-funs-callee.result got (current_slots s) c.args.froms.now) in
    let frames : c.push.new.self.items ≡ s.frames.items ++ waiting s ∷ [] = cc (c.in_ok-push.ensures.items) in
    let left : s.left ≡ suc (s.left - 1) = omega arith in
    call_turned funs c.args.depth c.requires.valid c.requires.laws s _ (s.left - 1) c.args.callee c.requires.instr.0 c.args.froms.now
    c.requires.sound c.requires.instr.1 left refl refl refl refl refl base stack frames m
