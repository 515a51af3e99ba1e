use Rattle.engine.proofs.Common.{rules, Err, Ok, read_by_name, refl, second_by, second_in}
use Rattle.engine.proofs.Readings.{bad_reading, good_reading, passed_reading, reading_of, reads_both, second_read, stops_after, unread_model, unread_names}
use Rattle.engine.proofs.two_decks.read_second.Goals as goal

pub returns-then-not-is_good_name-clause-reads : goal.returns-then-not-is_good_name-clause-reads
returns-then-not-is_good_name-clause-reads g c = λ files agree. bad_reading second_by c.args.name.now _ c.bad_name.result (search rules) c.bad_name.ensures

pub returns-in_err-files-clause-reads : goal.returns-in_err-files-clause-reads
returns-in_err-files-clause-reads g c = λ files agree.
    passed_reading second_by (read_by_name c.args.name.now (second_in c.args.limits files)) c.from_residual.result _ c.from_residual.ensures.1
    (good_reading second_by c.args.name.now _ (Err c.in_err-files.field-0.0) (search rules)
    (reading_of second_by _ (Err c.in_err-files.field-0.0) (unread_names c.args.limits files c.args.name.now c.in_err-files.field-0.0 (c.in_err-files.ensures.names files agree))))

pub returns-in-Err-clause-reads : goal.returns-in-Err-clause-reads
returns-in-Err-clause-reads g c = λ files agree.
    good_reading second_by c.args.name.now _ (Err c.in-Err.fault) (search rules)
    (reading_of second_by _ (Err c.in-Err.fault)
    (unread_model c.args.limits files c.args.name.now c.in_ok-files.files
    (c.in_ok-files.ensures.names files (c.read_model.ensures.folder.since files agree)) c.in-Err.fault (c.in-Err.ensures.model files agree)))

pub returns-in-Ok-clause-reads : goal.returns-in-Ok-clause-reads
returns-in-Ok-clause-reads g c = λ files agree.
    good_reading second_by c.args.name.now _ (Ok (record { name = c.args.name; files = c.in_ok-files.files; model = c.in-Ok.model })) (search rules)
    (second_read c.args.limits files c.args.name.now c.in_ok-files.files
    (c.in_ok-files.ensures.names files (c.read_model.ensures.folder.since files agree)) c.in-Ok.model (c.in-Ok.ensures.model files agree))

pub returns-in-Err-clause-folder : goal.returns-in-Err-clause-folder
returns-in-Err-clause-folder g c = stops_after g.F.Folder c.args.folder.now c.read_name_file.new.folder c.read_model.new.folder c.in_ok-files.files
    c.in-Err.fault c.in_ok-files.ensures.folder c.in-Err.ensures.folder

pub returns-in-Ok-clause-folder : goal.returns-in-Ok-clause-folder
returns-in-Ok-clause-folder g c = reads_both g.F.Folder c.args.folder.now c.read_name_file.new.folder c.read_model.new.folder c.in_ok-files.files c.in-Ok.model
    (Ok _) c.in_ok-files.ensures.folder c.in-Ok.ensures.folder refl
