-- A recorded call: its head, the sizes behind it, and what the call has to answer and to leave. Definitions only.
use Rattle.std.specs.Prelude.{ℕ, ◌+◌, ◌*◌, ◌≤◌, ◌≡◌, Bool, ◌&&◌, List, eqb, length, Float, Result, Ok, Err}
use Rattle.floats.specs.Limits.{untouched}
use Rattle.file.specs.Bytes.{word_at}
use Rattle.records.specs.Words.{numbers_written, bytes_written, numbers_left, bytes_left}
use Rattle.records.specs.declared.layout.Head.{Head}

-- 14 words of eight bytes are the head
abbrev pub IsHead : List ℕ → Head → Type 0
IsHead s h =
    (h.function ≡ word_at s 0) × (h.value ≡ word_at s 8) × (h.first ≡ word_at s 16) × (h.second ≡ word_at s 24)
    × (h.numbers ≡ word_at s 32) × (h.kinds ≡ word_at s 40) × (h.recorded ≡ word_at s 48) × (h.fitted ≡ word_at s 56)
    × (h.room ≡ word_at s 64) × (h.space ≡ word_at s 72) × (h.refusal ≡ word_at s 80) × (h.count ≡ word_at s 88)
    × (h.written ≡ word_at s 96) × (h.stored ≡ word_at s 104)

-- the counts fit the program's arrays, and no more is written than there is room for
pub record Whole (h : Head) : Type 0 where
  pub numbers : h.numbers ≤ 7300
  pub kinds : h.kinds ≤ 66000
  pub recorded : h.recorded ≤ 66000
  pub fitted : h.fitted ≤ 66000
  pub room : h.room ≤ 37000
  pub space : h.space ≤ 66000
  pub written : h.written ≤ h.room
  pub stored : h.stored ≤ h.space

-- ---- what stands behind the head
-- the numbers, the kinds and both files that are lent
abbrev pub lent_size : Head → ℕ
lent_size h = 8 * h.numbers + h.kinds + h.recorded + h.fitted

-- and the numbers and bytes that are written
abbrev pub body_bytes : Head → ℕ
body_bytes h = lent_size h + 8 * h.written + h.stored

-- ---- what a call answered and left
-- the count, where the expected refusal is 0; else that refusal
unfoldable pub is_answered : Head → Result ℕ ℕ → Bool
is_answered h (Ok n) = eqb h.refusal 0 && eqb n h.count
is_answered h (Err n) = eqb n h.refusal

-- what is written stands at the front of both outputs; all behind is left
unfoldable pub is_output : Head → List ℕ → List Float → List ℕ → Bool
is_output h body out bytes =
    numbers_written body (lent_size h) h.written out && bytes_written body (lent_size h + 8 * h.written) h.stored bytes
    && numbers_left out h.written (length out) untouched && bytes_left bytes h.stored (length bytes) 200
