use Rattle.std.proofs.Common.{◌∙◌, sym, refl, inr, [], ap}
use Rattle.std.specs.Prelude.{option_map}
use Rattle.csv.specs.Reading.{Reached, default_config, strip_bom}
use Rattle.csv.specs.Records.{fields_of}
use Rattle.csv.specs.declared.parser.State.TheVariants as st
use Rattle.csv.proofs.ReadFacts.{rows-end, rows-more}
use Rattle.vocabulary.specs.ResultSteps.{◌>>=◌}
use Rattle.csv_import.specs.CsvTables.{left_of_slice, table_of, under_header}
use Rattle.csv_import.proofs.FileRecordLemmas.{fewer-left}
use Rattle.csv_import.proofs.FileRowLemmas.{rows_in-more, rows-whole, rows-faulty, gives-fault, gives-same}
use Rattle.csv_import.proofs.table.rows_under_header.Goals as goal

pub loop-found-init : goal.loop-found-init
unfolding Reached
loop-found-init g c =
    let fr = c.from_reader-reader.ensures in
    let headers = c.has_headers.ensures in
    let flexible = c.flexible.ensures in (
      record {
        one_each = inr (inr (rw (flexible, headers) at fr.has_headers, fr.headers));
        untrimmed = rw (flexible, headers) at fr.trim ∙ c.new.ensures.trim;
        of_any_length = rw flexible at fr.flexible;
        by_default = rw (flexible, headers) at fr.config ∙ c.new.ensures.config;
      },
      strip_bom c.args.bytes.now,
      fr.source,
      [],
      (sym fr.state, refl),
      refl,
    )

pub loop-found-smaller : goal.loop-found-smaller
loop-found-smaller g c =
    let inv = c.loop-found.invariant in
    let s = rw c.if-branch.true at c.in_ok-next_record.ensures.reads in
    fewer-left left_of_slice c.loop-found.reader c.next_record.new.reader (fields_of c.next_record.new.fields) default_config inv.1 inv.0.by_default inv.2 s

pub loop-found-preserved : goal.loop-found-preserved
loop-found-preserved g c =
    let inv = c.loop-found.invariant in
    let s = rw c.if-branch.true at c.in_ok-next_record.ensures.reads in
    let m = rows-more left_of_slice c.loop-found.reader c.next_record.new.reader (fields_of c.next_record.new.fields) default_config st.StartRecord (strip_bom c.args.bytes.now) inv.1 inv.3 inv.0.by_default inv.2 inv.4 s in
    (c.in_ok-next_record.ensures.goes_on, m.0, m.1, _, m.2, rows_in-more g.T.Gather.names_columns g.T.Gather.row_after inv.3 (fields_of c.next_record.new.fields) _ inv.5 ∙ c.in-Ok.ensures.rows)

pub returns-in-Err : goal.returns-in-Err
returns-in-Err g c =
    let inv = c.loop-found.invariant in
    let s = rw c.if-branch.true at c.in_ok-next_record.ensures.reads in
    let m = rows-more left_of_slice c.loop-found.reader c.next_record.new.reader (fields_of c.next_record.new.fields) default_config st.StartRecord (strip_bom c.args.bytes.now) inv.1 inv.3 inv.0.by_default inv.2 inv.4 s in
    let more = rows_in-more g.T.Gather.names_columns g.T.Gather.row_after inv.3 (fields_of c.next_record.new.fields) _ inv.5 in
    gives-fault g.T.Gather.seen (option_map g.T.Gather.seen) c.in-Err.fault _ (table_of g.T.Gather.names_columns g.T.Gather.row_after c.args.bytes.now) c.in-Err.ensures.rows
    (λ h. ap (λ found. found >>= under_header) (rows-faulty g.T.Gather.names_columns g.T.Gather.row_after c.args.bytes.now _ c.next_record.new.reader.state m.0 c.in-Err.fault m.2 (more ∙ h)))

pub returns : goal.returns
returns g c =
    let inv = c.loop-found.invariant in
    let s = rw c.if-branch.false at c.in_ok-next_record.ensures.reads in
    let ends = rows-end left_of_slice c.loop-found.reader c.next_record.new.reader (fields_of c.next_record.new.fields) default_config inv.1 inv.0.by_default inv.2 s in
    gives-same g.T.Gather.seen c.under_header.result _ (table_of g.T.Gather.names_columns g.T.Gather.row_after c.args.bytes.now) c.under_header.ensures.rows
    (ap (λ found. found >>= under_header) (rows-whole g.T.Gather.names_columns g.T.Gather.row_after c.args.bytes.now inv.3 c.loop-found.reader.state inv.1 _ inv.4 ends inv.5))
