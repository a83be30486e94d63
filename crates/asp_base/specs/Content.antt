-- The bytes of content, whichever form it has.
use Rattle.std.specs.Prelude.{ℕ, ◌≤◌, List, length, take, drop}
use Rattle.std.specs.Arc.{arc_value}
use Rattle.asp_base.specs.declared.bytes.Form.{Form}
use Rattle.asp_base.specs.declared.bytes.Form.TheVariants.{Short, Alone, Shared}

-- the bytes, which lie in the value, or which one owner or several have
abbrev pub bytes_of : Form → List ℕ
bytes_of (Short bytes len) = take len bytes
bytes_of (Alone skipped bytes) = drop skipped bytes.items
bytes_of (Shared skipped bytes) = drop skipped (arc_value bytes).items

-- there are as many bytes as are taken or skipped
abbrev pub IsForm : Form → Type 0
IsForm (Short bytes len) = len ≤ 30
IsForm (Alone skipped bytes) = skipped ≤ length bytes.items
IsForm (Shared skipped bytes) = skipped ≤ length (arc_value bytes).items
