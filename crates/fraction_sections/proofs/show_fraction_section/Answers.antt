-- `fraction_sections::show_fraction_section` meets its contract.
-- Assumes nothing.
use Rattle.std.proofs.Common.{◌++◌, ap, length, arith, rules, of_calls}
use Rattle.formats.specs.Reading.{look_of}
use Rattle.tables.specs.Words.{Head}
use Rattle.tables.specs.Encode.{head_of}
use Rattle.table_words.specs.Runs.{items_in}
use Rattle.table_words.proofs.Bodies.{section-limits}
use Rattle.section_text.specs.Show.{sign_text}
use Rattle.section_text.proofs.Fitting.{shows-put}
use Rattle.fraction_sections.specs.Fraction.{FractionReady, mixed_text}
use Rattle.fraction_sections.proofs.Fractions.{mixed-short}
use Rattle.fraction_sections.proofs.Parts.{section-rules, fraction-ready, fraction-shows}
use Rattle.fraction_sections.proofs.show_fraction_section.Goals as goal

pub show_whole-requires : goal.show_whole-requires
show_whole-requires c =
    let k = c.requires.0 in
    let t = c.args.section.table.passes in
    let l = c.args.section.there in
    let h : FractionReady c.split_at-2.result.0.now c.split_at-2.result.1.now c.split_at.result.1.now =
    fraction-ready c.items-items.ensures k (section-rules _ _ t l k) (section-limits _ _ t l) c.cut_start.ensures c.split_at.ensures.front
    c.split_at.ensures.back c.run_start.ensures c.split_at-2.ensures.front c.split_at-2.ensures.back in
    search of_calls

pub returns : goal.returns
unfolding head_of
returns c =
    let o = c.items-items.ensures in
    let k = c.requires.0 in
    let t = c.args.section.table.passes in
    let l = c.args.section.there in
    let f = c.args.f in
    let rules' = section-rules _ _ t l k in
    let limits = section-limits _ _ t l in
    let x = c.cut_start.ensures in
    let y = c.run_start.ensures in
    let eb = c.split_at.ensures.front in
    let ef = c.split_at.ensures.back in
    let ew = c.split_at-2.ensures.front in
    let en = c.split_at-2.ensures.back in
    let h : FractionReady c.split_at-2.result.0.now c.split_at-2.result.1.now c.split_at.result.1.now = fraction-ready o k rules' limits x eb ef y ew en in
    fraction-shows o k rules' limits x eb ef y ew en _ _ _ _ f (ap (λ (h : Head). h.colour) c.head-colour.ensures.words)
    (c.show_whole.ensures
    (look_of (sign_text c.args.minus ++ mixed_text f (items_in c.split_at-2.result.0.now) (items_in c.split_at-2.result.1.now) (items_in c.split_at.result.1.now))
    c.head-colour.result.colour c.args.section.place c.args.exact)
    (λ room shown left p. shows-put (search rules) (search rules) (search rules) (search rules))
    (λ r.
    mixed-short h f c.args.minus c.args.size
    (omega (arith, (c.is_roomy-roomy.ensures r).1, ap length eb, ap length ef))))
