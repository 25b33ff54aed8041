-- The texts of the hints behind faults.
use Rattle.std.specs.Prelude.{ℕ, List, [], length, ◌++◌, ◌==◌, codes, if◌then◌else◌}
use Rattle.bx_text.specs.declared.fault.IoFault.TheVariants as io
use Rattle.bx_read.specs.declared.fault.ReadFault.TheVariants as read
use Rattle.bx_dd.specs.declared.fault.DdFault.TheVariants as dd
use Rattle.bx_patch.specs.declared.read.fault.PatchFault.TheVariants as patch
use Rattle.bx_journal.specs.SessionFault.TheVariants as session
use Rattle.bx_cli_commands.specs.declared.fault.Fault.{Fault}
use Rattle.bx_cli_commands.specs.declared.fault.Fault.TheVariants.{Io, Read, Behind, Dd, Patch, Disagrees, NotReversible, NothingToWrite, Session, Grows, ChangedSince}
use Rattle.bx_hints.specs.declared.fault.hint.Known.{Known}

-- two parts with a text between them, where neither is empty
abbrev pub with_between : List ℕ → List ℕ → List ℕ → List ℕ
with_between front between back = if length back == 0 then front else if length front == 0 then back else front ++ between ++ back

-- a text that ends in the name of a command, with its words and the rest behind it; where there is no rest, the text alone
abbrev pub completed : List ℕ → List ℕ → List ℕ → List ℕ
completed front words rest = if length rest == 0 then front else front ++ words ++ rest

-- what can be done about a fault of its kind, up to the name of a command where it gives one
abbrev pub advice_of : Fault → List ℕ
advice_of (Io io.InputTooLong) = codes "at most 1099511627776 bytes are read"
advice_of (Io io.SkipPastEnd) = codes "give a smaller -j"
advice_of (Read (read.BadAddress _)) = codes "a line is like '00000002: 7879'; for digits alone give -p"
advice_of (Read (read.MissingColon _)) = codes "a line is like '00000002: 7879'; for digits alone give -p"
advice_of (Read (read.BadPair _)) = codes "bytes are pairs of digits, with at most one space between two; under -p there are digits and white space alone"
advice_of (Read (read.NoData _)) = codes "digits follow the colon, behind at most one space"
advice_of (Read (read.AddressTooLarge _)) = codes "addresses are below 4611686018427387904"
advice_of (Read (read.OddDigits _)) = codes "each byte is two digits"
advice_of (Behind line) = codes "a stream is written from front to end; onto a file lines may go back: bx xxd -r DUMP OUT"
advice_of (Dd dd.InputTooLong) = codes "at most 1099511627776 bytes are read"
advice_of (Dd (dd.UnknownOperand _)) = codes "bx dd --help lists the operands and the conversions"
advice_of (Dd (dd.BadNumber _)) = codes "a number is decimal; behind it b (512), k or K (1024), M, G or T may stand, and of BYTES kB (1000), KiB and so on"
advice_of (Dd (dd.ZeroSize _)) = codes "a size is at least 1, and a product such as 0x4 is 0: give numbers in decimal"
advice_of (Dd dd.Conflict) = codes "give one of block and unblock, and one of lcase and ucase"
advice_of (Dd dd.MissingCbs) = codes "block and unblock want cbs=BYTES"
advice_of (Dd dd.SeekWithoutOutput) = codes "give of=IMAGE too"
advice_of (Patch (patch.Line (read.BadAddress _))) = codes "a line is like '+00000002: 7879'"
advice_of (Patch (patch.Line (read.MissingColon _))) = codes "a line is like '+00000002: 7879'"
advice_of (Patch (patch.Line (read.BadPair _))) = codes "bytes are pairs of digits, with at most one space between two"
advice_of (Patch (patch.Line (read.NoData _))) = codes "digits follow the colon, behind at most one space"
advice_of (Patch (patch.Line (read.AddressTooLarge _))) = codes "addresses are below 4611686018427387904"
advice_of (Patch (patch.OfNoKind _)) = codes "bx patch reads what bx diff writes: 'length 8 to 10' before all other lines, and lines like '+00000002: 7879'"
advice_of (Patch (patch.BadLength _)) = codes "it is like 'length 8 to 10', in decimal"
advice_of (Patch (patch.PastLength _)) = codes "the first line says how long the image is before and after"
advice_of (Patch patch.NoEnd) = codes "bx diff writes 'end N' last: what stops before that isn't whole; by hand a line 'end' will do"
advice_of (Patch (patch.BadCount _)) = codes "the last line counts those before it: one was lost or put in; by hand 'end' alone will do"
advice_of NotReversible = codes "each byte that it writes or cuts off has to stand in a '-' line too, and lines in the order of addresses"
advice_of NothingToWrite = codes "the input was read to its end, and has no byte"
advice_of (Disagrees _) = codes "the patch is of another image, or was applied before"
advice_of (Session session.NoMemory) = codes "a change, and what an undo or a redo takes back, are held in memory: CAVEATS in man bx has a way without"
advice_of (Session session.TooLarge) = codes "an image has at most 281474976710655 bytes"
advice_of (Session session.DeviceFailed) = codes "nothing was changed"
advice_of (Session (session.Damaged _)) = codes "repair that line, or move the journal and the redo file away (their undo history is lost)"
advice_of (Session (session.TooFew _)) = codes "bx log"
advice_of (Session session.JournalFull) = codes "bx forget accepts all changes, and nothing can be undone then"
advice_of (Session session.Interrupted) = codes "each command on the image but bx show first takes back or drops what was begun; look by bx show"
advice_of (Session (session.LengthDiffers _)) = codes "it may have another journal; where its length alone was changed, truncate -s"
advice_of (Session (session.NothingToRedo _)) = codes "a change that is no redo gives up what was undone, and a journal that is moved takes its redo file along"
advice_of (Session (session.RedoDamaged _)) = codes "move the redo file away to go on (what was undone is lost)"
advice_of (Grows has wanted) = codes "without --no-grow it may get longer"
advice_of ChangedSince = codes "--anyway goes on all the same, and --fresh of the command that writes it begins a new history; see bx show -d"
advice_of _ = []

-- what stands behind the words of the command that is given
abbrev pub hint_rest : Fault → List ℕ
hint_rest (Session (session.TooFew _)) = codes " lists the changes"
hint_rest (Session session.Interrupted) = codes ", which writes nothing"
hint_rest (Session (session.LengthDiffers _)) = codes " gives that back; or bx forget accepts it as it is (the undo history is lost)"
hint_rest ChangedSince = codes ", which writes nothing"
hint_rest _ = []

-- what is at fault and why, and what can be done
abbrev pub advised : Fault → Known → List ℕ
advised fault known = with_between (with_between known.subject.now (codes ": ") known.reason.now) (codes "; ") (advice_of fault)

-- the same, with the whole command, and how the one at fault is called
abbrev pub hint_of : Fault → Known → List ℕ
hint_of fault known = with_between (completed (advised fault known) known.words.now (hint_rest fault)) (codes "; ") known.usage.now
