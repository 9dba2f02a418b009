-- What the program makes of its input: the lap file of a text, or the line of a refusal. Definitions only.
use Rattle.std.specs.Prelude.{ℕ, List}
use Rattle.laps.specs.Rows.{file_size}
use Rattle.printing.specs.Printed.{printed}
use Rattle.svg.specs.Course.{read_course}

-- room for the largest file
abbrev pub most_file : ℕ
most_file = file_size 64 800

unfoldable pub lapsvg_bytes : List ℕ → List ℕ
lapsvg_bytes s = printed (read_course s most_file)
