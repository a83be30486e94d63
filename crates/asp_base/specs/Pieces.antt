-- A fact of how many bytes a read gave that were fed.
use Rattle.std.specs.Prelude.{ℕ, ⊤}
use Rattle.asp_base.specs.declared.outside.Piece.{Piece}
use Rattle.asp_base.specs.declared.outside.Piece.TheVariants as pieces

-- the fact holds where a piece was fed
abbrev pub IfFed : Piece → (ℕ → Type 0) → Type 0
IfFed (pieces.Fed n) Fact = Fact n
IfFed pieces.End Fact = ⊤
IfFed pieces.ReadFault Fact = ⊤
IfFed pieces.NoMemory Fact = ⊤
