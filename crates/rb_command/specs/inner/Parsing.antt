-- Words read one after the other, with the number of the first that is at fault. What it comes to is `IsParsed`.
use Rattle.std.specs.Prelude.{◌≡◌, ℕ, ◌+◌, ◌-◌, ◌^◌, List, [], ◌∷◌, ◌++◌, ◌==◌, codes, Option, Some, None, Result, Ok, Err, if◌then◌else◌}
use Rattle.std.specs.Str.{bytes_eq}
use Rattle.rb_bytes.specs.Memory.{least_region, most_region}
use Rattle.rb_core.specs.Decimal.{number_in}
use Rattle.rb_core.specs.Limits.{most_calls}
use Rattle.rb_command.specs.Command.{Limits, Command, Parsed, most_generated, check, layout, compile, run, image, count, gen, genrun, exec, value, peek}
use Rattle.rb_command.specs.declared.command.CommandFault.{CommandFault}
use Rattle.rb_command.specs.declared.command.CommandFault.TheVariants as fault

-- goes on with the first of the words, which is word n of all, and those behind it; n is at fault where there is none
abbrev pub with_word : ℕ → List (List ℕ) → (List ℕ → List (List ℕ) → Parsed) → Parsed
with_word n [] go = Err n
with_word n (w ∷ ws) go = go w ws

-- goes on with the number that word n spells; n is at fault where it spells none
abbrev pub at_number : ℕ → Option ℕ → (ℕ → Parsed) → Parsed
at_number n None go = Err n
at_number n (Some number) go = go number

-- goes on with the number from `low` to `high` that the first of the words, word n of all, spells, and with the words
-- behind it; n is at fault where there is no such word, or it spells none
abbrev pub with_number : ℕ → ℕ → ℕ → List (List ℕ) → (ℕ → List (List ℕ) → Parsed) → Parsed
with_number n low high words go =
    with_word n words (λ w ws. at_number n (number_in low high w) (λ number. go number ws))

-- goes on with CALLS and REGION, which are the words n and n + 1 of all, and with the words behind them
abbrev pub with_calls_and_region : ℕ → List (List ℕ) → (Limits → List (List ℕ) → Parsed) → Parsed
with_calls_and_region n words go =
    with_number n 0 most_calls words (λ calls ws.
    with_number (n + 1) least_region most_region ws (λ region rest.
    go (record { calls = calls; region = region }) rest))

-- the command, where no word is left; else the first that is left, word n of all, is at fault
abbrev pub alone : ℕ → Command → List (List ℕ) → Parsed
alone n command [] = Ok command
alone n command (w ∷ ws) = Err n

-- the words behind `check`: FILE and no more
abbrev pub check_words : List (List ℕ) → Parsed
check_words words = with_word 2 words (λ file ws. alone 3 (check file) ws)

-- the words behind `layout`: FILE and no more
abbrev pub layout_words : List (List ℕ) → Parsed
layout_words words = with_word 2 words (λ file ws. alone 3 (layout file) ws)

-- the words behind `compile`: FILE and no more
abbrev pub compile_words : List (List ℕ) → Parsed
compile_words words = with_word 2 words (λ file ws. alone 3 (compile file) ws)

-- the words behind `run`, `image` or `count`: FILE CALLS REGION and zero or more VALUE
abbrev pub with_call : List (List ℕ) → (List ℕ → Limits → List (List ℕ) → Command) → Parsed
with_call words command =
    with_word 2 words (λ file ws. with_calls_and_region 3 ws (λ limits values. Ok (command file limits values)))

-- the words behind `run`: FILE CALLS REGION and zero or more VALUE
abbrev pub run_words : List (List ℕ) → Parsed
run_words words = with_call words run

-- the words behind `image`: FILE CALLS REGION and zero or more VALUE
abbrev pub image_words : List (List ℕ) → Parsed
image_words words = with_call words image

-- the words behind `count`: FILE CALLS REGION and zero or more VALUE
abbrev pub count_words : List (List ℕ) → Parsed
count_words words = with_call words count

-- goes on with N, word 2, which is how many functions a generated file has beside `up` and
-- `main`, and with the words behind it
abbrev pub with_functions : List (List ℕ) → (ℕ → List (List ℕ) → Parsed) → Parsed
with_functions words go = with_number 2 1 most_generated words go

-- the words behind `gen`: N and no more
abbrev pub gen_words : List (List ℕ) → Parsed
gen_words words = with_functions words (λ functions ws. alone 3 (gen functions) ws)

-- the words behind `genrun`: N CALLS REGION and no more
abbrev pub genrun_words : List (List ℕ) → Parsed
genrun_words words =
    with_functions words (λ functions ws.
    with_calls_and_region 3 ws (λ limits rest.
    alone 5 (genrun functions limits) rest))

-- the number that word n spells, in front of those of the words behind it; or else the number of the first word that
-- spells none: n, where word n is such
abbrev pub first_number : ℕ → Option ℕ → Result (List ℕ) ℕ → Result (List ℕ) ℕ
first_number n None rest = Err n
first_number n (Some number) (Ok numbers) = Ok (number ∷ numbers)
first_number n (Some number) (Err m) = Err m

-- the numbers below 2^64 that the words from this number on spell, or the number of the first that spells none
abbrev pub numbers_from : ℕ → List (List ℕ) → Result (List ℕ) ℕ
numbers_from n [] = Ok []
numbers_from n (w ∷ ws) = first_number n (number_in 0 (2 ^ 64 - 1) w) (numbers_from (n + 1) ws)

-- the command `exec` on these words, or the number of the word that is at fault among them
abbrev pub exec_of : List ℕ → List ℕ → Limits → Result (List ℕ) ℕ → Parsed
exec_of code function limits (Ok words) = Ok (exec code function limits words)
exec_of code function limits (Err n) = Err n

-- the words behind `exec` and CODE: FUN CALLS REGION and zero or more WORD
abbrev pub function_words : List ℕ → List (List ℕ) → Parsed
function_words code words =
    with_word 3 words (λ function ws.
    with_calls_and_region 4 ws (λ limits rest.
    exec_of code function limits (numbers_from 6 rest)))

-- the words behind `exec`: CODE FUN CALLS REGION and zero or more WORD
abbrev pub exec_words : List (List ℕ) → Parsed
exec_words words = with_word 2 words (λ code ws. function_words code ws)

-- the words behind `value`: FILE IMAGE and no more
abbrev pub value_words : List (List ℕ) → Parsed
value_words words = with_word 2 words (λ file ws. with_word 3 ws (λ second rest. alone 4 (value file second) rest))

-- the step of a path that digits write: a number below 2^32; none where they write none
abbrev pub step_in : List ℕ → Option ℕ
step_in digits = number_in 0 (2 ^ 32 - 1) digits

-- a path's first step in front of those behind it; none where either is no step
abbrev pub first_step : Option ℕ → Option (List ℕ) → Option (List ℕ)
first_step None rest = None
first_step (Some step) None = None
first_step (Some step) (Some path) = Some (step ∷ path)

-- the steps that bytes spell, a point between one and the next, where `digits` have been read
-- of the first; none where they spell none
abbrev pub steps_from : List ℕ → List ℕ → Option (List ℕ)
steps_from digits [] = first_step (step_in digits) (Some [])
steps_from digits (b ∷ bs) =
    if b == 46 then first_step (step_in digits) (steps_from [] bs) else steps_from (digits ++ b ∷ []) bs

-- the path that a word spells: `.` alone has no steps, else each step has a point before it;
-- none where it spells none
abbrev pub path_in : List ℕ → Option (List ℕ)
path_in [] = None
path_in (b ∷ []) = if b == 46 then Some [] else None
path_in (b ∷ c ∷ bs) = if b == 46 then steps_from [] (c ∷ bs) else None

-- goes on with the path that word n spells; n is at fault where it spells none
abbrev pub at_path : ℕ → Option (List ℕ) → (List ℕ → Parsed) → Parsed
at_path n None go = Err n
at_path n (Some path) go = go path

-- goes on with the path that the first of the words, word n of all, spells, and with the words
-- behind it; n is at fault where there is no such word, or it spells none
abbrev pub with_path : ℕ → List (List ℕ) → (List ℕ → List (List ℕ) → Parsed) → Parsed
with_path n words go = with_word n words (λ w ws. at_path n (path_in w) (λ path. go path ws))

-- the words behind `peek`: FILE IMAGE PATH and no more
abbrev pub peek_words : List (List ℕ) → Parsed
peek_words words =
    with_word 2 words (λ file ws.
    with_word 3 ws (λ second us.
    with_path 4 us (λ path rest.
    alone 5 (peek file second path) rest)))

-- the command that words spell, or the number of the first word at fault; that is 1 where the
-- first is missing or names no command
unfoldable pub command_of : List (List ℕ) → Parsed
command_of words = with_word 1 words (λ w ws.
    if bytes_eq w (codes "check") then check_words ws else
    if bytes_eq w (codes "layout") then layout_words ws else
    if bytes_eq w (codes "compile") then compile_words ws else
    if bytes_eq w (codes "run") then run_words ws else
    if bytes_eq w (codes "image") then image_words ws else
    if bytes_eq w (codes "count") then count_words ws else
    if bytes_eq w (codes "gen") then gen_words ws else
    if bytes_eq w (codes "genrun") then genrun_words ws else
    if bytes_eq w (codes "exec") then exec_words ws else
    if bytes_eq w (codes "value") then value_words ws else
    if bytes_eq w (codes "peek") then peek_words ws else Err 1)

-- the number of the first word at fault, as a parser answers it, or want of memory
abbrev pub StopsAs : {A : Type 0} → Result A ℕ → CommandFault → Type 0
StopsAs parsed (fault.Usage n) = parsed ≡ Err n
StopsAs parsed fault.Memory = Unit {0}
