-- The limits of files, programs and runs. Each is the greatest count that is allowed.
use Rattle.std.specs.Prelude.{ℕ}

-- the most bytes that a program's file may have
abbrev pub most_file_bytes : ℕ
most_file_bytes = 262144

-- the most data types that a program may declare
abbrev pub most_types : ℕ
most_types = 1000

-- the most functions that a program may declare
abbrev pub most_functions : ℕ
most_functions = 10000

-- the most constructors that one data type may have
abbrev pub most_constructors : ℕ
most_constructors = 256

-- the most fields that one constructor may have
abbrev pub most_fields : ℕ
most_fields = 32

-- the most parameters that one function may have
abbrev pub most_parameters : ℕ
most_parameters = 32

-- the most words that the shape of one layout may have
abbrev pub most_words : ℕ
most_words = 8

-- the most levels that a program's text may nest, the outermost counted
abbrev pub most_levels : ℕ
most_levels = 128

-- the most calls that a run may be given, that of `main` counted
abbrev pub most_calls : ℕ
most_calls = 1000000000

-- the most calls that `eval` may be given, which nests as deep as they do
abbrev pub most_eval_calls : ℕ
most_eval_calls = 1000
