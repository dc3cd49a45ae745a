use Rattle.std.proofs.Common.{ℕ, List, length, drop, refl, sym, subst, Ok}
use Rattle.rb_accept.specs.Reading.{ReadsInTurn, source_of}
use Rattle.rb_accept.proofs.ReadLaws.{none_in_turn}
use Rattle.rb_command.specs.Command.{gen, genrun, exec, peek}
use Rattle.rb_command.specs.View.{command_view, limits_view}
use Rattle.rb_command.specs.declared.command.Command.{Command}
use Rattle.rb_lines.specs.View.{Meets}
use Rattle.rb_lines.proofs.Meeting.{met}
use Rattle.ribbit_tool.specs.Answers.{Owes, answered, files_of}
use Rattle.ribbit_tool.specs.Generate.{Generates, CountsGenerated}
use Rattle.ribbit_tool.proofs.top.obey.Goals as goal

pub returns-in-Check-clause-read : goal.returns-in-Check-clause-read
returns-in-Check-clause-read g c =
    let source = source_of g.S.Source.tells g.S.Source.held g.S.Source.readings g.S.Source.faults c.args.src.now c.check_file.new.src in
    subst (λ (command : Command). ReadsInTurn (files_of (Ok (command_view command))) source) (sym c.in-Check.is) c.check_file.ensures.read

pub returns-in-Check-clause-owed : goal.returns-in-Check-clause-owed
returns-in-Check-clause-owed g c =
    let readings = (drop (length (g.S.Source.readings c.args.src.now)) (g.S.Source.readings c.check_file.new.src)) in
    subst (λ (command : Command). Meets (Owes (Ok (command_view command)) readings) c.args.steps.now.taken c.args.steps.now.taken c.check_file.result)
    (sym c.in-Check.is) (c.check_file.ensures.owed c.args.steps.now.taken)

pub returns-in-Layout-clause-read : goal.returns-in-Layout-clause-read
returns-in-Layout-clause-read g c =
    let source = source_of g.S.Source.tells g.S.Source.held g.S.Source.readings g.S.Source.faults c.args.src.now c.layout_file.new.src in
    subst (λ (command : Command). ReadsInTurn (files_of (Ok (command_view command))) source) (sym c.in-Layout.is) c.layout_file.ensures.read

pub returns-in-Layout-clause-owed : goal.returns-in-Layout-clause-owed
returns-in-Layout-clause-owed g c =
    let readings = (drop (length (g.S.Source.readings c.args.src.now)) (g.S.Source.readings c.layout_file.new.src)) in
    subst (λ (command : Command). Meets (Owes (Ok (command_view command)) readings) c.args.steps.now.taken c.args.steps.now.taken c.layout_file.result)
    (sym c.in-Layout.is) (c.layout_file.ensures.owed c.args.steps.now.taken)

pub returns-in-Compile-clause-read : goal.returns-in-Compile-clause-read
returns-in-Compile-clause-read g c =
    let source = source_of g.S.Source.tells g.S.Source.held g.S.Source.readings g.S.Source.faults c.args.src.now c.compile_file.new.src in
    subst (λ (command : Command). ReadsInTurn (files_of (Ok (command_view command))) source) (sym c.in-Compile.is) c.compile_file.ensures.read

pub returns-in-Compile-clause-owed : goal.returns-in-Compile-clause-owed
returns-in-Compile-clause-owed g c =
    let readings = (drop (length (g.S.Source.readings c.args.src.now)) (g.S.Source.readings c.compile_file.new.src)) in
    subst (λ (command : Command). Meets (Owes (Ok (command_view command)) readings) c.args.steps.now.taken c.args.steps.now.taken c.compile_file.result)
    (sym c.in-Compile.is) (c.compile_file.ensures.owed c.args.steps.now.taken)

pub returns-in-Run-clause-read : goal.returns-in-Run-clause-read
returns-in-Run-clause-read g c =
    let source = source_of g.S.Source.tells g.S.Source.held g.S.Source.readings g.S.Source.faults c.args.src.now c.run_file.new.src in
    subst (λ (command : Command). ReadsInTurn (files_of (Ok (command_view command))) source) (sym c.in-Run.is) c.run_file.ensures.read

pub returns-in-Run-clause-owed : goal.returns-in-Run-clause-owed
returns-in-Run-clause-owed g c =
    let readings = (drop (length (g.S.Source.readings c.args.src.now)) (g.S.Source.readings c.run_file.new.src)) in
    subst (λ (command : Command). Meets (Owes (Ok (command_view command)) readings) c.args.steps.now.taken c.run_file.new.steps.taken c.run_file.result)
    (sym c.in-Run.is) c.run_file.ensures.owed

pub returns-in-Image-clause-read : goal.returns-in-Image-clause-read
returns-in-Image-clause-read g c =
    let source = source_of g.S.Source.tells g.S.Source.held g.S.Source.readings g.S.Source.faults c.args.src.now c.image_file.new.src in
    subst (λ (command : Command). ReadsInTurn (files_of (Ok (command_view command))) source) (sym c.in-Image.is) c.image_file.ensures.read

pub returns-in-Image-clause-owed : goal.returns-in-Image-clause-owed
returns-in-Image-clause-owed g c =
    let readings = (drop (length (g.S.Source.readings c.args.src.now)) (g.S.Source.readings c.image_file.new.src)) in
    subst (λ (command : Command). Meets (Owes (Ok (command_view command)) readings) c.args.steps.now.taken c.image_file.new.steps.taken c.image_file.result)
    (sym c.in-Image.is) c.image_file.ensures.owed

pub returns-in-Count-clause-read : goal.returns-in-Count-clause-read
returns-in-Count-clause-read g c =
    let source = source_of g.S.Source.tells g.S.Source.held g.S.Source.readings g.S.Source.faults c.args.src.now c.count_file.new.src in
    subst (λ (command : Command). ReadsInTurn (files_of (Ok (command_view command))) source) (sym c.in-Count.is) c.count_file.ensures.read

pub returns-in-Count-clause-owed : goal.returns-in-Count-clause-owed
returns-in-Count-clause-owed g c =
    let readings = (drop (length (g.S.Source.readings c.args.src.now)) (g.S.Source.readings c.count_file.new.src)) in
    subst (λ (command : Command). Meets (Owes (Ok (command_view command)) readings) c.args.steps.now.taken c.count_file.new.steps.taken c.count_file.result)
    (sym c.in-Count.is) c.count_file.ensures.owed

pub returns-in-Gen-clause-read : goal.returns-in-Gen-clause-read
returns-in-Gen-clause-read g c =
    let source = source_of g.S.Source.tells g.S.Source.held g.S.Source.readings g.S.Source.faults c.args.src.now c.args.src.now in
    none_in_turn source (files_of (Ok (command_view c.args.command.now))) refl

pub returns-in-GenRun-clause-read : goal.returns-in-GenRun-clause-read
returns-in-GenRun-clause-read g c =
    let source = source_of g.S.Source.tells g.S.Source.held g.S.Source.readings g.S.Source.faults c.args.src.now c.args.src.now in
    none_in_turn source (files_of (Ok (command_view c.args.command.now))) refl

pub returns-in-Gen-clause-owed : goal.returns-in-Gen-clause-owed
returns-in-Gen-clause-owed g c =
    let readings = (drop (length (g.S.Source.readings c.args.src.now)) (g.S.Source.readings c.args.src.now)) in
    let n = c.in-Gen.functions in
    let steps = c.args.steps.now.taken in
    subst (λ (command : Command). Meets (Owes (Ok (command_view command)) readings) steps steps c.generate_file.result) (sym c.in-Gen.is)
    (met (λ due. Generates n.count due) (λ due. Owes (Ok (gen n.count)) readings due) (λ due h. answered h) steps steps c.generate_file.result (c.generate_file.ensures steps))

pub returns-in-GenRun-clause-owed : goal.returns-in-GenRun-clause-owed
returns-in-GenRun-clause-owed g c =
    let readings = (drop (length (g.S.Source.readings c.args.src.now)) (g.S.Source.readings c.args.src.now)) in
    let n = c.in-GenRun.functions in
    let limits = limits_view c.in-GenRun.limits in
    let steps = c.args.steps.now.taken in
    subst (λ (command : Command). Meets (Owes (Ok (command_view command)) readings) steps c.count_generated.new.steps.taken c.count_generated.result) (sym c.in-GenRun.is)
    (met (λ due. CountsGenerated n.count limits due) (λ due. Owes (Ok (genrun n.count limits)) readings due) (λ due h. answered h)
    steps c.count_generated.new.steps.taken c.count_generated.result c.count_generated.ensures)

pub returns-in-Exec-clause-read : goal.returns-in-Exec-clause-read
returns-in-Exec-clause-read g c =
    let source = source_of g.S.Source.tells g.S.Source.held g.S.Source.readings g.S.Source.faults c.args.src.now c.run_code_file.new.src in
    subst (λ (command : Command). ReadsInTurn (files_of (Ok (command_view command))) source) (sym c.in-Exec.is) c.run_code_file.ensures.read

pub returns-in-Exec-clause-owed : goal.returns-in-Exec-clause-owed
returns-in-Exec-clause-owed g c =
    let readings = (drop (length (g.S.Source.readings c.args.src.now)) (g.S.Source.readings c.run_code_file.new.src)) in
    let owed = subst (λ (words : List ℕ). Meets (Owes (Ok (exec c.in-Exec.code.now c.in-Exec.function.now (limits_view c.in-Exec.limits) words)) readings)
    c.args.steps.now.taken c.run_code_file.new.steps.taken c.run_code_file.result) c.as_slice.ensures c.run_code_file.ensures.owed in
    subst (λ (command : Command). Meets (Owes (Ok (command_view command)) readings) c.args.steps.now.taken c.run_code_file.new.steps.taken c.run_code_file.result)
    (sym c.in-Exec.is) owed

pub returns-in-Value-clause-read : goal.returns-in-Value-clause-read
returns-in-Value-clause-read g c =
    let source = source_of g.S.Source.tells g.S.Source.held g.S.Source.readings g.S.Source.faults c.args.src.now c.value_file.new.src in
    subst (λ (command : Command). ReadsInTurn (files_of (Ok (command_view command))) source) (sym c.in-Value.is) c.value_file.ensures.read

pub returns-in-Value-clause-owed : goal.returns-in-Value-clause-owed
returns-in-Value-clause-owed g c =
    let readings = (drop (length (g.S.Source.readings c.args.src.now)) (g.S.Source.readings c.value_file.new.src)) in
    subst (λ (command : Command). Meets (Owes (Ok (command_view command)) readings) c.args.steps.now.taken c.args.steps.now.taken c.value_file.result)
    (sym c.in-Value.is) (c.value_file.ensures.owed c.args.steps.now.taken)

pub returns-in-Peek-clause-read : goal.returns-in-Peek-clause-read
returns-in-Peek-clause-read g c =
    let source = source_of g.S.Source.tells g.S.Source.held g.S.Source.readings g.S.Source.faults c.args.src.now c.peek_file.new.src in
    subst (λ (command : Command). ReadsInTurn (files_of (Ok (command_view command))) source) (sym c.in-Peek.is) c.peek_file.ensures.read

pub returns-in-Peek-clause-owed : goal.returns-in-Peek-clause-owed
returns-in-Peek-clause-owed g c =
    let readings = (drop (length (g.S.Source.readings c.args.src.now)) (g.S.Source.readings c.peek_file.new.src)) in
    let owed = subst (λ (path : List ℕ). Meets (Owes (Ok (peek c.in-Peek.file.now c.in-Peek.image.now path)) readings)
    c.args.steps.now.taken c.args.steps.now.taken c.peek_file.result) c.as_slice-in-Peek.ensures (c.peek_file.ensures.owed c.args.steps.now.taken) in
    subst (λ (command : Command). Meets (Owes (Ok (command_view command)) readings) c.args.steps.now.taken c.args.steps.now.taken c.peek_file.result)
    (sym c.in-Peek.is) owed
