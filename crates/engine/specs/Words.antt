-- What `heads words` puts: a line for each command, and one for each of its options.
use Rattle.std.specs.Prelude.{codes, ◌++◌}
use Rattle.run_puts.specs.{Text}

abbrev pub words_text : Text
words_text =
    codes "run NAME: lists the heads, the budget and the zone flows of each time step of the model that the name file NAME describes\n"
    ++ (codes "  --digits S: conductances have S digits after the decimal point, 0 to 18; 12 without this word\n"
    ++ (codes "  --workers W: W threads settle each step, 1 to 64; 4 without this word\n"
    ++ (codes "  --rounds P: a step that P rounds do not settle ends the run, 1 to 4000000000; 1000000 without this word\n"
    ++ (codes "  --quick: certified bounds as soon as they are found, which may be less tight; not with --watch\n"
    ++ (codes "  --wide: wide limits, and floors and ceilings beyond the range of heads are cut\n"
    ++ (codes "  --to NAME2: bounds for every model between that of NAME and that of NAME2\n"
    ++ (codes "  --zones Z: the flows between the zones that the file Z gives the cells, too\n"
    ++ (codes "  --watch N: N views of the heads in each phase of a step, to standard error, 1 to 1000\n"
    ++ (codes "  --deck: first the text of the deck and of the zones, then the listing\n"
    ++ (codes "  --plan WELLS: what the wells of the file WELLS do, in the weather of NAME or in every one up to NAME2; not with --watch, --deck\n"
    ++ (codes "check NAME LISTING: says whether LISTING is certified for the model of NAME, or else where it fails first\n"
    ++ (codes "  --digits S: the digits of the run\n"
    ++ (codes "  --wide: wide limits, as the run had them\n"
    ++ (codes "  --to NAME2: LISTING is of every model between that of NAME and that of NAME2\n"
    ++ (codes "  --zones Z: LISTING has the flows between the zones of the file Z\n"
    ++ (codes "  --plan WELLS: LISTING is of what the wells of the file WELLS do\n"
    ++ (codes "  --convertible: LISTING is of gentle heads of a model with convertible layers; not with --to, --plan\n"
    ++ (codes "check --deck TEXT: says whether the listing in TEXT is certified for the deck or the two decks in TEXT, or else where it fails first\n"
    ++ (codes "  --digits S: the digits of the run\n"
    ++ (codes "  --wide: wide limits, as the run had them\n"
    ++ (codes "make SEED SIZE: makes a model of SIZE rows and columns from a seed, and puts a summary of its listing\n"
    ++ (codes "batch LIST: lists the models whose name files stand in the file LIST, one on a line\n"
    ++ (codes "  --digits S: as with run\n"
    ++ (codes "  --workers W: W models are listed at a time, each by one thread, 1 to 64; 4 without this word\n"
    ++ (codes "  --rounds P: as with run\n"
    ++ (codes "  --quick: as with run\n"
    ++ (codes "  --wide: as with run\n"
    ++ (codes "write NAME: puts the deck of the model of NAME in one spelling, one file after another\n"
    ++ (codes "  --wide: wide limits\n"
    ++ (codes "words: puts these lines\n"))))))))))))))))))))))))))))))
