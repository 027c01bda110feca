-- The items of a literal, General or text section, by their words.
-- Assumes nothing.
use Rattle.std.specs.Prelude.{ℕ, Bool, true, false, cond, ◌&&◌, ltb, eqb}
use Rattle.values.specs.Ranges.{between}
use Rattle.tables.specs.Words.{Entry}

-- the tag of the item that makes the section; a literal section has none of its own
abbrev pub own_tag : ℕ → ℕ
own_tag kind = cond (eqb kind 1) 9 (cond (eqb kind 3) 10 1)

-- a literal, a blank, a fill, or that item
unfoldable pub bare_entry : ℕ → Entry → Bool
bare_entry own e = cond (between 1 3 e.tag) (ltb e.argument 65536) (eqb e.tag own && eqb e.argument 0)

-- how often it may stand: General once, `@` at least once
abbrev pub owns_fit : ℕ → ℕ → Bool
owns_fit kind n = cond (eqb kind 0) true (cond (eqb kind 1) (eqb n 1) (cond (eqb kind 3) (ltb 0 n) false))
