-- `drafting::drafts::draft_body` meets its contract.
-- Assumes nothing.
use Prim.Native.Nat.{ℕ, ◌+◌, ◌≤◌}
use native.Mathlib.Omega.{arith}
use mathlib.Core.List.{List}
use lib.ListN.{length}
use Rattle.formats.specs.Tokens.{Token}
use Rattle.marks.specs.Marks.{tokens_in}
use Rattle.writing.proofs.Laws.{put-size}
use Rattle.drafting.specs.Draft.{body_words, settled_words}
use Rattle.drafting.specs.Parts.{tokens_of}
use Rattle.drafting.proofs.Settled.{body-size, put-read}
use Rattle.drafting.proofs.Drafting.{facts-commas, body-read, uncut-read, bare-parted, bare-drafted, cut-put, bare-put}
use Rattle.drafting.proofs.drafts.draft_body.Goals as goal

-- the words of the items take as much room before they are numbered
settled-room : (ts : List Token) (at room : ℕ) → at + length (body_words ts) ≤ room → at + length (settled_words ts) ≤ room
settled-room ts at room h = omega (arith, h, body-size ts)

pub commas_of-commas-requires : goal.commas_of-commas-requires
commas_of-commas-requires c = (c.args.body.few, λ code. facts-commas _ (tokens_in code c.args.body.marks.now) (c.facts_of-facts.ensures code))

pub put_settled-end-requires-clause-room : goal.put_settled-end-requires-clause-room
put_settled-end-requires-clause-room c = (c.requires.room.0, settled-room (tokens_of c.args.body) c.args.at (length c.args.items.now) c.requires.room.1)

pub slice_bounds-tally_words-end : goal.slice_bounds-tally_words-end
slice_bounds-tally_words-end c =
    let room = settled-room (tokens_of c.args.body) c.args.at (length c.args.items.now) c.requires.room.1 in
    omega (arith, c.put_settled-end.ensures.next, put-size c.put_settled-end.ensures, room)

pub returns-then-tally : goal.returns-then-tally
returns-then-tally c =
    let code = c.args.body.code.now in
    let ts = tokens_of c.args.body in
    let put = c.put_settled-end.ensures in
    let room = settled-room ts c.args.at (length c.args.items.now) c.requires.room.1 in
    let read = body-read ts put room c.requires.units (c.facts_of-facts.ensures code) (c.commas_of-commas.ensures code) c.tally_words-tally.ensures in
    let both = cut-put ts put room _ _ (c.draft_cut.ensures code read (put-read put room)) in
    record { draft = both.0; put = both.1 }

pub bare_body-requires : goal.bare_body-requires
bare_body-requires c =
    let code = c.args.body.code.now in
    let ts = tokens_of c.args.body in
    let room = settled-room ts c.args.at (length c.args.items.now) c.requires.room.1 in
    uncut-read ts (body-read ts c.put_settled-end.ensures room c.requires.units (c.facts_of-facts.ensures code) (c.commas_of-commas.ensures code) c.tally_words-tally.ensures) c.if-tally.false

pub returns : goal.returns
returns c =
    let code = c.args.body.code.now in
    let ts = tokens_of c.args.body in
    let put = c.put_settled-end.ensures in
    let room = settled-room ts c.args.at (length c.args.items.now) c.requires.room.1 in
    let read = body-read ts put room c.requires.units (c.facts_of-facts.ensures code) (c.commas_of-commas.ensures code) c.tally_words-tally.ensures in
    let uncut = uncut-read ts read c.if-tally.false in
    let none : c.tally_words-tally.result.solidi ≤ 0 = omega (arith, uncut.solidi) in
    let both = bare-put ts put room _ (bare-drafted ts read none _ c.bare_body.ensures, (bare-parted ts read.tally none).words) in
    record { draft = both.0; put = both.1 }
