-- The version of the library.
use Rattle.std.specs.Prelude.{ℕ}

-- the number of the version: 10000 times its first part, 100 times its second, and its third
abbrev pub version : ℕ
version = 500
