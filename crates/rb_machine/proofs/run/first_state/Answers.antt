use Rattle.std.proofs.Common.{◌≡◌, ◌≤◌, ◌-◌, ◌++◌, ◌∙◌, [], refl, arith, ap, length, replicate}
use Rattle.std.proofs.lemmas.Option.{slice_get_read}
use Rattle.rb_machine.proofs.Begins.{first_sound, first_whole}
use Rattle.rb_machine.specs.Runs.{params_in}
use Rattle.rb_machine.specs.declared.state.State.{State}
use Rattle.rb_machine.proofs.run.first_state.Goals as goal

pub overflow_sub-outermost : goal.overflow_sub-outermost
overflow_sub-outermost c =
    let funs = c.args.funs.now in
    let f = c.index-funs-fun.result in
    let known = slice_get_read funs (length funs) c.args.fun f refl c.requires.known c.index-funs-fun.is in
    let valid = (c.requires.valid.each c.args.fun f known).params in
    let words : length c.args.words.now ≡ f.params = c.requires.words ∙ ap params_in known in
    let fits : length c.args.words.now ≤ f.slots = omega arith in
    fits

pub returns-clause-sound : goal.returns-clause-sound
returns-clause-sound c =
    let funs = c.args.funs.now in
    let f = c.index-funs-fun.result in
    let known = slice_get_read funs (length funs) c.args.fun f refl c.requires.known c.index-funs-fun.is in
    let words : length c.args.words.now ≡ f.params = c.requires.words ∙ ap params_in known in
    let s : State = record { fun = c.args.fun; pc = 0; base = 0; stack = c.push_zeros.new.words; left = c.args.left; frames = c.new.result; switches = 0; results = c.push_zeros-2.new.words } in
    let stack : s.stack.items ≡ c.args.words.now ++ replicate (f.slots - length c.args.words.now) 0 = rw c.in_ok-stack.ensures.items at c.in_ok-push_zeros.ensures in
    let results : s.results.items ≡ [] ++ replicate f.results 0 = rw c.new-results.ensures.items at c.in_ok-push_zeros-2.ensures in
    first_sound funs c.args.left s f c.args.words.now known refl refl c.new.ensures.items refl refl stack c.requires.valid words c.requires.left results

pub returns-clause-whole : goal.returns-clause-whole
returns-clause-whole c m =
    let funs = c.args.funs.now in
    let f = c.index-funs-fun.result in
    let known = slice_get_read funs (length funs) c.args.fun f refl c.requires.known c.index-funs-fun.is in
    let s : State = record { fun = c.args.fun; pc = 0; base = 0; stack = c.push_zeros.new.words; left = c.args.left; frames = c.new.result; switches = 0; results = c.push_zeros-2.new.words } in
    let stack : s.stack.items ≡ c.args.words.now ++ replicate (f.slots - length c.args.words.now) 0 = rw c.in_ok-stack.ensures.items at c.in_ok-push_zeros.ensures in
    first_whole funs c.args.left s f c.args.words.now known refl refl c.new.ensures.items refl refl stack m
