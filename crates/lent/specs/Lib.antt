-- What is lent, what is seen of an opcode, and what the functions of lent, act and draw promise by it.
pub mod Lent
pub mod Shown
pub mod Leaves
