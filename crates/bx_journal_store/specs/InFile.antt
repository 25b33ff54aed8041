-- What callers see of a text in a file.
use Rattle.bx_journal_store.specs.declared.file.FileText.{FileText}

-- the file that has the text
abbrev pub text_file : {F : Type 0} → FileText F → F
text_file t = t.file
