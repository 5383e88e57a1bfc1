-- What scripts mean. Before these files read those of the readers, each in its crate's specs/: text Lexicon (white space, comments, tokens), words Words, span Span (where a command ends), and of reading
-- Tree (terms and commands), Spelling (the grammar), Reading (what stops a reading, and where), Saying (names and amounts). Then, in this order:
-- what is lent to a script call, and when it is sound;
pub mod Record
-- what each command does to it, and prints;
pub mod Effect
-- what each needs, in order: the promises of the two library calls, start and command;
pub mod Commands
-- a whole script, command by command;
pub mod Whole
-- sequences in which script calls and the others are mixed;
pub mod Mixed
-- the standard's meaning of a term;
pub mod Terms
-- what is asserted after a sequence of commands, when it is satisfiable, its earliest plan;
pub mod Traces
-- a whole script by start and command calls;
pub mod ByCalls
-- what the answers say;
pub mod Told
-- what is accepted, from the text of the commands alone.
pub mod Accepted
