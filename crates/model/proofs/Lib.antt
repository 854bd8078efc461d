pub mod InstructionForm
