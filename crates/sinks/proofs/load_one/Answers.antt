-- `sinks::load_one` meets its contract: by the form of the record its weight is put at its segment, or the table stays.
use Rattle.std.proofs.Common.{sym, ◌∙◌, inl, inr}
use Rattle.sinks.proofs.Loading.{whole-counts, fraction-counts, loaded-set, loaded-none}
use Rattle.sinks.proofs.load_one.Goals as goal

pub returns-in-Some-clause-loaded : goal.returns-in-Some-clause-loaded
returns-in-Some-clause-loaded c t =
    let s = c.args.all.now in
    let x = c.in-Fraction.ensures in
    loaded-set s.records.counts s.records.bytes.now c.args.w c.requires.loaded_to c.requires.few c.requires.fits c.weight_byte-i.ensures.0 (inr x.0) (c.in-Some.ensures.1 ∙ fraction-counts s.records.counts s.records.bytes.now c.args.w x.0 c.entry.ensures.weight x.1)

pub returns-in-Whole-clause-loaded : goal.returns-in-Whole-clause-loaded
returns-in-Whole-clause-loaded c t =
    let s = c.args.all.now in
    let k = c.in-Whole.ensures in
    loaded-set s.records.counts s.records.bytes.now c.args.w c.requires.loaded_to c.requires.few c.requires.fits c.weight_byte-i.ensures.0 (inl k.0) (k.1 ∙ sym (whole-counts s.records.counts s.records.bytes.now c.args.w k.0))

pub returns-in-Absent-clause-loaded : goal.returns-in-Absent-clause-loaded
returns-in-Absent-clause-loaded c t =
    let s = c.args.all.now in
    loaded-none s.records.counts s.records.bytes.now c.args.w c.requires.loaded_to c.in-Absent.ensures.0 c.in-Absent.ensures.1
