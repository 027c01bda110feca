-- The sections of a table that passes, and the kind that each value of Kind names.
-- Assumes nothing.
use Rattle.std.specs.Prelude.{List}
use Rattle.formats.specs.Items as items
use Rattle.formats.specs.Items.{Section, literal_kind, general_kind, number_kind, text_kind, date_kind, scientific_kind, fraction_kind}
use Rattle.tables.specs.Decode.{decode}
use Rattle.table_words.specs.declared.Kind.{Kind}
use Rattle.table_words.specs.declared.Kind.TheVariants.{Literal, General, Number, Text, DateTime, Scientific, Fraction}
use Rattle.table_words.specs.declared.Table.{Table}
use Rattle.table_words.specs.declared.TableSection.{TableSection}
use Rattle.table_words.specs.Sections.{section_in}

-- the sections that a table stands for
abbrev pub sections_of : Table → List Section
sections_of t = decode t.words.now

-- the section at a place of a table
abbrev pub section_of : TableSection → Section
section_of s = section_in s.table.words.now s.place

abbrev pub kind_named : Kind → items.Kind
kind_named Literal = literal_kind
kind_named General = general_kind
kind_named Number = number_kind
kind_named Text = text_kind
kind_named DateTime = date_kind
kind_named Scientific = scientific_kind
kind_named Fraction = fraction_kind
